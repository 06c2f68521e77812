use Rattle.std.proofs.Common.{◌≡◌, length}
use Rattle.dx_solver.proofs.forward.bind.Given as goal

abbrev pub invariant-loop-term : goal.invariant-loop-term
invariant-loop-term l = length l.domains.items ≡ length l.initial.domains.items

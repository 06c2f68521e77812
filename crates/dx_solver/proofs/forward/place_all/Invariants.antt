use Rattle.std.proofs.Common.{◌≡◌, length}
use Rattle.dx_solver.proofs.forward.place_all.Given as goal

abbrev pub invariant-loop : goal.invariant-loop
invariant-loop l = length l.domains.items ≡ length l.initial.domains.items

use Rattle.std.proofs.Common.{◌≡◌, take}
use Rattle.dx_solver.proofs.node.copies.Given as goal

abbrev pub invariant-loop-domain : goal.invariant-loop-domain
invariant-loop-domain l = l.all.items ≡ take l.domain-index l.domains

use Rattle.std.proofs.Common.{◌≡◌, drop}
use Rattle.dx_implies.specs.Near.{cells_can_have}
use Rattle.dx_implies.proofs.nearby.can_cells_have.Given as goal

abbrev pub invariant-loop-i : goal.invariant-loop-i
invariant-loop-i l = cells_can_have (drop l.i l.asked) (drop l.i l.made) ≡ cells_can_have l.asked l.made

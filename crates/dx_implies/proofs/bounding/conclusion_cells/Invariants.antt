use Rattle.std.proofs.Common.{◌≡◌, length, take}
use Rattle.dx_model.specs.Rules.{cells_of}
use Rattle.dx_implies.proofs.bounding.conclusion_cells.Given as goal

abbrev pub invariant-loop-atom : goal.invariant-loop-atom
invariant-loop-atom l = l.count ≡ length (cells_of (take l.atom-index l.atom-items))

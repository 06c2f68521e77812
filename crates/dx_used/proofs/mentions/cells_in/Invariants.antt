use Rattle.std.proofs.Common.{◌≡◌, ◌-◌, ◌^◌, length, min, take}
use Rattle.dx_model.specs.Rules.{cells_of}
use Rattle.dx_used.proofs.mentions.cells_in.Given as goal

abbrev pub invariant-loop-atom : goal.invariant-loop-atom
invariant-loop-atom l = l.count ≡ min (length (cells_of (take l.atom-index l.atoms))) (2 ^ 64 - 1)

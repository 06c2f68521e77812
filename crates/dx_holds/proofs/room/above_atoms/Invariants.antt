use Rattle.std.proofs.Common.{◌<◌, ℕ, take}
use Rattle.dx_base.specs.Members.{◌∈◌}
use Rattle.dx_model.specs.declared.rules.Cell.TheVariants.{Ex}
use Rattle.dx_model.specs.Rules.{cells_of}
use Rattle.dx_holds.proofs.room.above_atoms.Given as goal

abbrev pub invariant-loop-atom : goal.invariant-loop-atom
invariant-loop-atom l = (v : ℕ) → Ex v ∈ cells_of (take l.atom-index l.atoms) → v < l.above

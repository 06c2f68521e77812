use Rattle.std.proofs.Common.{◌≡◌, take}
use Rattle.std.specs.Prelude.{map, slice_index_or}
use Rattle.dx_script.specs.declared.form.CellRef.{CellRef}
use Rattle.dx_scriptgen.proofs.copies.cells_at.Given as goal

abbrev pub invariant-loop-place : goal.invariant-loop-place
invariant-loop-place l = (none : CellRef) → l.found ≡ map (λ p. slice_index_or l.cells p none) (take l.place-index l.places)

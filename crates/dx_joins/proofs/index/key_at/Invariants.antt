use Rattle.std.proofs.Common.{◌≡◌, take}
use Rattle.dx_instance.specs.Cells.{row_key}
use Rattle.dx_joins.specs.Looking.{numbers_at_places}
use Rattle.dx_joins.proofs.index.key_at.Given as goal

abbrev pub invariant-loop-place : goal.invariant-loop-place
invariant-loop-place l = l.key ≡ row_key (numbers_at_places l.row (take l.place-index l.places))

use Rattle.dx_instance.specs.Keys.{RowsAreKeyed}
use Rattle.dx_instance.proofs.cells.Rows.keyed_places.Given as goal

abbrev pub invariant-loop-place : goal.invariant-loop-place
invariant-loop-place l = RowsAreKeyed l.packing.base l.packing.digits l.self.rows l.keys.items l.place

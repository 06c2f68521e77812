use Rattle.std.proofs.Common.{◌≡◌, take}
use Rattle.dx_model.specs.Tables.{values_in}
use Rattle.dx_instance.specs.Places.{row_at}
use Rattle.dx_fails.proofs.shadows.shadow_of.Given as goal

abbrev pub invariant-loop-column : goal.invariant-loop-column
invariant-loop-column l = l.row ≡ values_in (take l.column-index l.columns) (row_at l.instance l.table l.place)

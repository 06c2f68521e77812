use Rattle.std.proofs.Common.{◌≡◌, take}
use Rattle.dx_instance.specs.Places.{row_at}
use Rattle.dx_hom.proofs.searching.is_row.Given as goal

abbrev pub invariant-loop-column : goal.invariant-loop-column
invariant-loop-column l = take l.column l.row ≡ take l.column (row_at l.into l.table l.place)

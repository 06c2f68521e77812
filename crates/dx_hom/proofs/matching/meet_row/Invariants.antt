use Rattle.std.proofs.Common.{◌≡◌, take}
use Rattle.std.specs.Prelude.{map}
use Rattle.dx_model.specs.Instances.{moved, nulls_in}
use Rattle.dx_instance.specs.Places.{row_at}
use Rattle.dx_hom.specs.Narrowing.{Narrows}
use Rattle.dx_hom.proofs.matching.meet_row.Given as goal

abbrev pub invariant-loop-column : goal.invariant-loop-column
invariant-loop-column l = record {
  room : l.found.room ≡ l.fn.found.room;
  narrows : Narrows l.goal.into.now l.goal.fixed.now l.fn.found.cells (nulls_in (take l.column l.row))
      (λ g. map (moved g) (take l.column l.row) ≡ take l.column (row_at l.goal.into.now l.spot.table l.spot.place)) l.found.cells;
}

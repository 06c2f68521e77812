use Rattle.std.proofs.Common.{◌≤◌, ◌-◌, length}
use Rattle.dx_model.specs.Tables.{values_in}
use Rattle.dx_instance.specs.Places.{NoneWith, row_at}
use Rattle.dx_instance.specs.Stored.{rows_of}
use Rattle.dx_holds.proofs.columns.Seen.next_like.Given as goal

abbrev pub invariant-loop-place : goal.invariant-loop-place
invariant-loop-place l = record {
  later : l.from ≤ l.next;
  none : NoneWith l.self.instance.now l.table l.columns (values_in l.self.columns.now (row_at l.self.instance.now l.self.table l.self.place)) l.from l.next;
}

abbrev pub decreases-loop-place : goal.decreases-loop-place
decreases-loop-place l = length (rows_of l.self.instance.now l.table) - l.next

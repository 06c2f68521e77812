use Rattle.std.proofs.Common.{◌≤◌, ◌-◌, length}
use Rattle.dx_instance.specs.Places.{NoneWith}
use Rattle.dx_instance.specs.Stored.{rows_of}
use Rattle.dx_instance.proofs.instance.Instance.with_columns.Given as goal

abbrev pub invariant-loop-place : goal.invariant-loop-place
invariant-loop-place l = record {
  later : l.from ≤ l.next;
  none : NoneWith l.self l.table l.columns l.values l.from l.next;
}

abbrev pub decreases-loop-place : goal.decreases-loop-place
decreases-loop-place l = length (rows_of l.self l.table) - l.next

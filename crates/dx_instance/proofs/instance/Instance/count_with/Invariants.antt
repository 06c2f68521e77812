use Rattle.std.proofs.Common.{◌≡◌, ◌≤◌, ◌-◌, length, take, count_by}
use Rattle.dx_model.specs.Tables.{cell}
use Rattle.dx_model.specs.Covers.{same_value}
use Rattle.dx_instance.specs.Stored.{rows_of}
use Rattle.dx_instance.proofs.instance.Instance.count_with.Given as goal

abbrev pub invariant-loop-place : goal.invariant-loop-place
invariant-loop-place l = record {
  is : l.count ≡ count_by (λ row. same_value (cell row l.column) l.value) (take l.next (rows_of l.self l.table));
  few : l.count ≤ l.next;
  within : l.next ≤ length (rows_of l.self l.table);
}

abbrev pub decreases-loop-place : goal.decreases-loop-place
decreases-loop-place l = length (rows_of l.self l.table) - l.next

use Rattle.std.proofs.Common.{◌<◌, ◌-◌, ◌%◌, ℕ, length}
use Rattle.dx_instance.specs.Shown.{numbers_of_table}
use Rattle.dx_instance.specs.Cells.{row_key, numbers_at}
use Rattle.dx_joins.specs.Collecting.{CollectsRows}
use Rattle.dx_joins.specs.Looking.{IsNextInBucket, keys_of, numbers_at_places}
use Rattle.dx_joins.specs.Planning.{Pairs}
use Rattle.dx_joins.proofs.join.Pairing.join_row.Given as goal

abbrev pub invariant-loop-place : goal.invariant-loop-place
invariant-loop-place l = record {
  gains : CollectsRows l.initial.out l.out (λ t. (q : ℕ) × (q < l.place) × Pairs l.self.plan.now l.self.marks.now l.left (numbers_at (numbers_of_table l.self.source.now.tables l.self.table).rows q) t);
  next : IsNextInBucket (keys_of l.self.plan.now.by_right.items (numbers_of_table l.self.source.now.tables l.self.table).rows) (length l.index.heads.items) (row_key (numbers_at_places l.left l.self.plan.now.by_left.items) % length l.index.heads.items) l.place l.place;
}

abbrev pub decreases-loop-place : goal.decreases-loop-place
decreases-loop-place l = l.count - l.place

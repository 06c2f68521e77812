use Rattle.std.proofs.Common.{◌<◌, ℕ}
use Rattle.dx_instance.specs.Shown.{numbers_of_table}
use Rattle.dx_instance.specs.Cells.{numbers_at}
use Rattle.dx_joins.specs.Collecting.{CollectsRows}
use Rattle.dx_joins.specs.Planning.{Pairs}
use Rattle.dx_joins.proofs.join.Pairing.join_all.Given as goal

abbrev pub invariant-loop-place : goal.invariant-loop-place
invariant-loop-place l = CollectsRows l.initial.out l.out (λ t. (q : ℕ) × (q < l.place) × Pairs l.self.plan.now l.self.marks.now l.left (numbers_at (numbers_of_table l.self.source.now.tables l.self.table).rows q) t)

use Rattle.std.proofs.Common.{◌<◌, ℕ}
use Rattle.dx_instance.specs.Shown.{numbers_of_table}
use Rattle.dx_instance.specs.Cells.{numbers_at}
use Rattle.dx_joins.specs.Collecting.{CollectsRows}
use Rattle.dx_joins.specs.Planning.{PairsWith}
use Rattle.dx_joins.proofs.join.Pairing.join.Given as goal

abbrev pub invariant-loop-place : goal.invariant-loop-place
invariant-loop-place l = CollectsRows l.initial.out l.out (λ t. (q : ℕ) × (q < l.place) × PairsWith l.self.plan.now l.self.marks.now (numbers_of_table l.self.source.now.tables l.self.table).rows (numbers_at l.rows.rows q) t)

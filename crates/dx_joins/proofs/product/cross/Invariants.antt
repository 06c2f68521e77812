use Rattle.std.proofs.Common.{◌<◌, ℕ, [], length}
use Rattle.dx_instance.specs.Cells.{numbers_at}
use Rattle.dx_joins.specs.Collecting.{CollectsRows}
use Rattle.dx_joins.specs.Products.{CrossesWith}
use Rattle.dx_joins.proofs.product.cross.Given as goal

abbrev pub invariant-loop-place : goal.invariant-loop-place
invariant-loop-place l = CollectsRows (record { width = length l.places; most = l.most; rows = [] }) l.out (λ t. (q : ℕ) × (q < l.place) × CrossesWith l.rights.rows l.places (numbers_at l.lefts.rows q) t)

use Rattle.std.proofs.Common.{◌≡◌, ◌<◌, ◌++◌, ℕ}
use Rattle.dx_instance.specs.Cells.{numbers_at}
use Rattle.dx_joins.specs.Collecting.{CollectsRows}
use Rattle.dx_joins.specs.Looking.{numbers_at_places}
use Rattle.dx_joins.proofs.product.cross_row.Given as goal

abbrev pub invariant-loop-place : goal.invariant-loop-place
invariant-loop-place l = CollectsRows l.initial.out l.out (λ t. (q : ℕ) × (q < l.place) × (t ≡ numbers_at_places (l.left ++ numbers_at l.rights.rows q) l.places))

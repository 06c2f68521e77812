-- Rows of which no two are one are as many as they are in order.
use Rattle.std.proofs.Common.{◌≡◌, ℕ, ◌<◌, List, [], length, arith}
use Rattle.std.specs.Cmp.{IsTotalOrder}
use Rattle.std.proofs.lemmas.Cmp.{lists_total}
use Rattle.dx_base.specs.Members.{◌⊆◌, Distinct, Each}
use Rattle.dx_base.proofs.Members.{in_at, no_longer}
use Rattle.dx_model.specs.declared.values.Value.{Value}
use Rattle.dx_model.specs.Values.{RowsAscend, row_cmp}
use Rattle.dx_model.proofs.Ascending.{ascending_distinct}
use Rattle.dx_model.proofs.Orders.{value_total}
use Rattle.dx_instance.specs.Stored.{TableRows, rows_of}

row_total : IsTotalOrder row_cmp
row_total = lists_total value_total

as_many : (rows sorted : List (List Value)) → Distinct rows → RowsAscend sorted → rows ⊆ sorted → sorted ⊆ rows → length rows ≡ length sorted
as_many rows sorted distinct up kept only =
    let a = no_longer rows sorted distinct kept in
    let b = no_longer sorted rows (ascending_distinct row_cmp row_total sorted up) only in omega (arith, a, b)

-- the rows of a table of an instance
pub rows_as_many : (I : List TableRows) (t : ℕ) (sorted : List (List Value)) → Each I (λ u. Distinct u.rows) → t < length I → RowsAscend sorted
    → rows_of I t ⊆ sorted → sorted ⊆ rows_of I t → length (rows_of I t) ≡ length sorted
rows_as_many I t sorted distinct within up kept only =
    as_many (rows_of I t) sorted (distinct _ (in_at I t (record { width = 0; rows = [] }) within)) up kept only

-- Rows that are taken out of tables.
use Rattle.std.specs.Prelude.{ℕ, Bool, false, List, [], length, map, replicate, slice_index_or, slice_set}
use Rattle.dx_instance.specs.Cells.{NumberTable}

-- whether the row at a place is taken out
abbrev pub is_out : List (List Bool) → ℕ → ℕ → Bool
is_out out t p = slice_index_or (slice_index_or out t []) p false

-- the marks with another one at a place
abbrev pub with_mark : List (List Bool) → ℕ → ℕ → Bool → List (List Bool)
with_mark out t p mark = slice_set out t (slice_set (slice_index_or out t []) p mark)

-- a mark for each row, none of them taken out
abbrev pub none_out : List NumberTable → List (List Bool)
none_out ts = map (λ (t : NumberTable). replicate (length t.rows) false) ts

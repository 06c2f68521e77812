-- Indexes of columns: which rows have a number in a column.
use Rattle.std.specs.Prelude.{◌≡◌, ℕ, ◌<◌, ◌≤◌, ◌⊎◌, List, length, slice_index, slice_index_or, Option, MatchOption}
use Rattle.dx_instance.specs.Cells.{numbers_at}
use Rattle.dx_instance.specs.declared.column_index.ColumnIndex.{ColumnIndex}

-- the number in a column of the row at a place
abbrev pub number_in : List (List ℕ) → ℕ → ℕ → ℕ
number_in rows column p = slice_index (numbers_at rows p) column

-- no row at a place from a up to b has the number
abbrev pub NoNumber : List (List ℕ) → ℕ → ℕ → ℕ → ℕ → Type 0
NoNumber rows column number a b = (p : ℕ) → a ≤ p → p < b → ¬ (number_in rows column p ≡ number)

abbrev pub entry_at : ColumnIndex → ℕ → ℕ × ℕ
entry_at x k = slice_index_or x.entries.items k (0, 0)

-- the least place from a on whose row has the number
abbrev pub IsNextWithNumber : List (List ℕ) → ℕ → ℕ → ℕ → Option ℕ → Type 0
IsNextWithNumber rows column number a o =
    MatchOption o (NoNumber rows column number a (length rows))
    (λ p. (a ≤ p) × (p < length rows) × (number_in rows column p ≡ number) × NoNumber rows column number a p)

-- the entries are the numbers in the column, each with its place, ascending
pub record IsColumnIndex (rows : List (List ℕ)) (x : ColumnIndex) : Type 0 where
  pub each : (k : ℕ) → k < length x.entries.items
      → ((entry_at x k).1 < length rows) × ((entry_at x k).0 ≡ number_in rows x.column (entry_at x k).1)
  pub all : (p : ℕ) → p < length rows → (k : ℕ) × (k < length x.entries.items) × ((entry_at x k).1 ≡ p)
  pub up : (i j : ℕ) → i ≤ j → j < length x.entries.items
      → ((entry_at x i).0 < (entry_at x j).0)
      ⊎ (((entry_at x i).0 ≡ (entry_at x j).0) × ((entry_at x i).1 ≤ (entry_at x j).1))

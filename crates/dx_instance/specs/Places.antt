-- Rows and values by their places, and places whose rows have some values in some columns.
use Rattle.std.specs.Prelude.{◌≡◌, ℕ, ◌<◌, ◌≤◌, List, [], map, slice_index, slice_index_or}
use Rattle.std.specs.Prelude.{count_by, length, Option, Some, MatchOption}
use Rattle.dx_model.specs.declared.values.Value.{Value}
use Rattle.dx_model.specs.Covers.{same_value}
use Rattle.dx_model.specs.Tables.{cell, values_in}
use Rattle.dx_model.specs.declared.facts.Fact.{Fact}
use Rattle.dx_instance.specs.Stored.{TableRows, rows_of}

-- the row at a place of a table
abbrev pub row_at : List TableRows → ℕ → ℕ → List Value
row_at I t p = slice_index_or (rows_of I t) p []

-- the value in a column of it
abbrev pub value_at : List TableRows → ℕ → ℕ → ℕ → Value
value_at I t p c = cell (row_at I t p) c

-- the row at a place has these values in these columns
abbrev pub HasValues : List TableRows → ℕ → List ℕ → List Value → ℕ → Type 0
HasValues I t columns values p = map (value_at I t p) columns ≡ values

-- no row at a place from a up to b has them
abbrev pub NoneWith : List TableRows → ℕ → List ℕ → List Value → ℕ → ℕ → Type 0
NoneWith I t columns values a b = (p : ℕ) → a ≤ p → p < b → ¬ (HasValues I t columns values p)

-- the least place from a on whose row has these values in these columns
abbrev pub IsFirstWith : List TableRows → ℕ → List ℕ → List Value → ℕ → Option ℕ → Type 0
IsFirstWith I t columns values a o =
    MatchOption o (NoneWith I t columns values a (length (rows_of I t)))
    (λ p. (a ≤ p) × (p < length (rows_of I t)) × NoneWith I t columns values a p × HasValues I t columns values p)

-- how many rows of a table have this value in this column
abbrev pub rows_with : List TableRows → ℕ → ℕ → Value → ℕ
rows_with I t column value = count_by (λ row. same_value (cell row column) value) (rows_of I t)

-- for each place of a table the least whose row has in these columns what the row at the place has
pub record AreFirsts (I : List TableRows) (t : ℕ) (columns places : List ℕ) : Type 0 where
  pub many : length places ≡ length (rows_of I t)
  pub each : (p : ℕ) → p < length (rows_of I t)
      → IsFirstWith I t columns (values_in columns (row_at I t p)) 0 (Some (slice_index places p))

-- the fact at a place
abbrev pub fact_at : List TableRows → ℕ → ℕ → Fact
fact_at I t p = record { table = t; row = row_at I t p }

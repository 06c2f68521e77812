-- Tables of numbers, and the rows of values that they show.
use Rattle.std.specs.Prelude.{◌≡◌, ℕ, ◌<◌, ◌≤◌, ◌^◌, ◌-◌, List, [], length, map, slice_index, slice_index_or}
use Rattle.dx_base.specs.Members.{Distinct, Each}
use Rattle.dx_model.specs.declared.values.Value.{Value}
use Rattle.dx_instance.specs.Stored.{TableRows}
use Rattle.dx_instance.specs.Numbers.{ValuesDiffer, value_of}
use Rattle.dx_instance.specs.Cells.{NumberTable}

abbrev pub shown_row : List Value → List ℕ → List Value
shown_row symbols row = map (value_of symbols) row

abbrev pub shown : List Value → NumberTable → TableRows
shown symbols t = record { width = t.width; rows = map (shown_row symbols) t.rows }

abbrev pub shown_tables : List Value → List NumberTable → List TableRows
shown_tables symbols ts = map (shown symbols) ts

-- each number of the row is below n
abbrev pub NumbersBelow : ℕ → List ℕ → Type 0
NumbersBelow n row = Each row (λ x. x < n)

-- what holds of a table of numbers below n
pub record NumbersFit (n : ℕ) (t : NumberTable) : Type 0 where
  pub columns : 1 ≤ t.width
  pub each : Each t.rows (λ (r : List ℕ). length r ≡ t.width)
  pub within : Each t.rows (NumbersBelow n)
  pub distinct : Distinct t.rows
  pub few : length t.rows < 2 ^ 32

-- what is asked of rows of which an instance is made: at least one column, and numbers below n
pub record NumberRowsFit (n : ℕ) (t : NumberTable) : Type 0 where
  pub columns : 1 ≤ t.width
  pub within : Each t.rows (NumbersBelow n)

-- what holds of the parts of an instance
pub record PartsFit (symbols : List Value) (ts : List NumberTable) : Type 0 where
  pub apart : ValuesDiffer symbols
  pub small : length symbols < 2 ^ 32
  pub each : Each ts (NumbersFit (length symbols))
  pub few : length ts < 2 ^ 32 - 1

-- symbols, and tables of the numbers under which they stand
pub record NumberedInstance : Type 0 where
  pub symbols : List Value
  pub tables : List NumberTable

-- the table of numbers with a number
abbrev pub numbers_of_table : List NumberTable → ℕ → NumberTable
numbers_of_table ts t = slice_index_or ts t (record { width = 0; rows = [] })

-- the numbers that show this row
pub record Shows (symbols : List Value) (numbers : List ℕ) (row : List Value) : Type 0 where
  pub is : shown_row symbols numbers ≡ row
  pub within : NumbersBelow (length symbols) numbers

-- the table with ranks in the place of numbers
abbrev pub renumbered : List ℕ → NumberTable → NumberTable
renumbered ranks t = record { width = t.width; rows = map (λ (r : List ℕ). map (slice_index ranks) r) t.rows }

-- The numbers by which values are compared, and where in rows they are found.
use Rattle.std.specs.Prelude.{◌≡◌, ◌⊎◌, ◌<◌, ◌+◌, ℕ, true, List, [], length, map, slice_index}
use Rattle.dx_base.specs.Members.{◌∈◌}
use Rattle.dx_model.specs.declared.values.Value.{Value}
use Rattle.dx_model.specs.declared.values.Value.TheVariants.{Const, Null}
use Rattle.dx_model.specs.declared.rules.Cell.{Cell}
use Rattle.dx_model.specs.Rules.{cell_value, text_of}
use Rattle.dx_instance.specs.Numbers.{value_of}
use Rattle.dx_joins.specs.Shown.{AllTexts, is_text, texts_of}
use Rattle.dx_cover_fold.specs.declared.number_at.NumberAt.{NumberAt}
use Rattle.dx_cover_fold.specs.declared.number_at.NumberAt.TheVariants.{Column, Fixed}

-- a text that a row of numbers can have, or the empty text
abbrev pub IsHeld : List Value → Value → Type 0
IsHeld symbols v = ((v ∈ symbols) × (is_text v ≡ true)) ⊎ (v ≡ Const [])

-- the value has the number
pub record IsSymbol (symbols : List Value) (v : Value) (n : ℕ) : Type 0 where
  pub within : n < length symbols
  pub value : value_of symbols n ≡ v

-- the number after all, which the empty text has if it is no symbol
pub record IsNoText (symbols : List Value) (v : Value) (n : ℕ) : Type 0 where
  pub number : n ≡ length symbols
  pub empty : v ≡ Const []
  pub absent : ¬ (v ∈ symbols)

-- the number after that one, which all have that no row can have
pub record IsNumberOfNoRow (symbols : List Value) (v : Value) (n : ℕ) : Type 0 where
  pub number : n ≡ length symbols + 1
  pub none : ¬ (IsHeld symbols v)

-- the number by which a value is compared
abbrev pub IsCode : List Value → Value → ℕ → Type 0
IsCode symbols v n = IsSymbol symbols v n ⊎ (IsNoText symbols v n ⊎ IsNumberOfNoRow symbols v n)

-- the number of a row that is told
abbrev pub number_told : List ℕ → NumberAt → ℕ
number_told row (Column c) = slice_index row c
number_told row (Fixed n) = n

-- rows of this width have the column
abbrev pub RowHasColumn : ℕ → NumberAt → Type 0
RowHasColumn width (Column c) = c < width
RowHasColumn width (Fixed n) = Unit {0}

-- the numbers of a row that a plan tells
abbrev pub numbers_by : List NumberAt → List ℕ → List ℕ
numbers_by plan row = map (number_told row) plan

-- in each row of texts of this width is found by which number what a cell says is compared
pub record IsPlanned (symbols : List Value) (variables : List ℕ) (width : ℕ) (c : Cell) (p : NumberAt) : Type 0 where
  pub column : RowHasColumn width p
  pub code : (rule place : ℕ) (row : List ℕ) → length row ≡ width → AllTexts symbols row
      → IsCode symbols (cell_value (text_of variables (texts_of symbols row))
      (λ v. Null (record { rule = rule; var = v; row = place })) c) (number_told row p)

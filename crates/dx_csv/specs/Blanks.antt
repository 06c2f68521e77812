-- A table of which only some columns count. A column without a mark is used.
use Rattle.std.specs.Prelude.{◌≡◌, ◌⊎◌, ◌+◌, ◌*◌, ◌<◌, ◌≤◌, ℕ, List, [], map, Bool}
use Rattle.std.specs.Prelude.{cond, true, false, slice_index, slice_index_or, Some}
use Rattle.dx_base.specs.Members.{◌∈◌}
use Rattle.dx_model.specs.declared.values.Value.{Value}
use Rattle.dx_model.specs.declared.values.Value.TheVariants.{Const}
use Rattle.dx_model.specs.Values.{constants}
use Rattle.dx_instance.specs.Numbers.{IsNumberOf}
use Rattle.dx_used.specs.Used.{blanked}
use Rattle.dx_csv.specs.Table.{AreTableRecords}

-- the rows of a table, blank in the columns that are not used
abbrev pub IsTableUsed : List Bool → List (List (List ℕ)) → List (List ℕ) → List (List Value) → Type 0
IsTableUsed used records columns rows =
    (whole : List (List Value)) × AreTableRecords records columns whole × (rows ≡ map (blanked used) whole)

-- the constants of these texts, blank in the columns that are not used
abbrev pub constants_used : List Bool → List (List ℕ) → List Value
constants_used used fields = blanked used (constants fields)

-- whether a column is used
abbrev pub is_used : List Bool → ℕ → Bool
is_used used column = slice_index_or used column true

-- the number is that of the empty constant
abbrev pub IsBlankNumber : List Value → ℕ → Type 0
IsBlankNumber symbols n = IsNumberOf symbols (Const []) (Some n)

-- the number is that of the empty constant, if some column is not used
abbrev pub HasBlank : List Bool → List Value → ℕ → Type 0
HasBlank used symbols n = false ∈ used → IsBlankNumber symbols n

-- the constant of a record in a column, blank if the column is not used
abbrev pub constant_at : List Bool → List (List ℕ) → ℕ → ℕ → ℕ → Value
constant_at used texts width r column =
    cond (is_used used column) (Const (slice_index_or texts (r * width + column) [])) (Const [])

-- the cells of a column in the first n records have the numbers of their texts' constants
abbrev pub NumbersOfTexts : List Value → List (List ℕ) → ℕ → ℕ → List ℕ → ℕ → Type 0
NumbersOfTexts symbols texts width column cells n =
    (r : ℕ) → r < n → IsNumberOf symbols (Const (slice_index_or texts (r * width + column) []))
    (Some (slice_index cells (r * width + column)))

-- the cells of the other columns stay
abbrev pub OthersStay : ℕ → ℕ → List ℕ → List ℕ → Type 0
OthersStay width column old new =
    (r d : ℕ) → d < width → ¬ (d ≡ column) → slice_index new (r * width + d) ≡ slice_index old (r * width + d)

-- the cells of all columns that are not used, and of those from this one on, have the numbers of their constants
abbrev pub ColumnsSettled : List Bool → List Value → List (List ℕ) → ℕ → ℕ → List ℕ → ℕ → Type 0
ColumnsSettled used symbols texts width count cells column =
    (r c : ℕ) → r < count → c < width → (column ≤ c) ⊎ (is_used used c ≡ false)
    → IsNumberOf symbols (constant_at used texts width r c) (Some (slice_index cells (r * width + c)))

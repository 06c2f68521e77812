-- What is said of g by cells that hold its values.
use Rattle.std.specs.Prelude.{◌≡◌, ◌↔◌, ℕ, ◌<◌, ◌≤◌, List, [], ◌∷◌, ◌++◌, length, map, Some, Bool, MatchBool}
use Rattle.std.specs.FinMap as finite
use Rattle.dx_base.specs.Members.{◌∈◌, ◌⊆◌, Distinct, IsPrefix}
use Rattle.dx_model.specs.declared.values.NullId.{NullId}
use Rattle.dx_model.specs.declared.values.Value.{Value}
use Rattle.dx_model.specs.Instances.{moved, nulls_in}
use Rattle.dx_instance.specs.NullMaps.{ByNull}
use Rattle.dx_instance.specs.Stored.{TableRows, rows_of, table_at}
use Rattle.dx_instance.specs.Places.{row_at, value_at}
use Rattle.dx_hom.specs.declared.matching.Found.{Found}
use Rattle.dx_hom.specs.Bound.{BindingState}

-- the nulls that were found
abbrev pub found_nulls : List Found → List NullId
found_nulls found = map (λ (b : Found). b.null) found

-- the value in the cell
abbrev pub null_value : List TableRows → Found → Value
null_value T b = value_at T b.table b.place b.column

pub record IsNullCell (T : List TableRows) (b : Found) : Type 0 where
  pub table : b.table < length T
  pub place : b.place < length (rows_of T b.table)
  pub column : b.column < (table_at T b.table).width

-- the instance has a cell in column c of the row at a place
pub record IsCellAt (T : List TableRows) (t p c : ℕ) : Type 0 where
  pub table : t < length T
  pub place : p < length (rows_of T t)
  pub column : c < (table_at T t).width

-- the instance has a row at a place, and it and this row are as wide as the table
pub record FitsRowAt (T : List TableRows) (row : List Value) (t p : ℕ) : Type 0 where
  pub table : t < length T
  pub place : p < length (rows_of T t)
  pub width : length row ≡ (table_at T t).width
  pub wide : length (row_at T t p) ≡ (table_at T t).width

-- the list has at most n different members
abbrev pub AtMost : {X : Type 0} → List X → ℕ → Type 0
AtMost {X} xs n = (ds : List X) → Distinct ds → ds ⊆ xs → length ds ≤ n

-- the null may have the value
abbrev pub Allows : ByNull → NullId → Value → Type 0
Allows fixed n v = (x : Value) → finite.get fixed n ≡ Some x → x ≡ v

-- each null once, with a cell whose value it may have
pub record IsGood (T : List TableRows) (fixed : ByNull) (found : List Found) : Type 0 where
  pub once : Distinct (found_nulls found)
  pub cells : (b : Found) → b ∈ found → IsNullCell T b
  pub allowed : (b : Found) → b ∈ found → Allows fixed b.null (null_value T b)

-- g gives the fixed nulls their values, and each null that was found the value of its cell
pub record ExtendsPartialMap (T : List TableRows) (fixed : ByNull) (found : List Found)
    (g : NullId → Value) : Type 0 where
  pub fixed_values : (n : NullId) (x : Value) → finite.get fixed n ≡ Some x → g n ≡ x
  pub cell_values : (b : Found) → b ∈ found → g b.null ≡ null_value T b

-- new finds the nulls ns as well, and says exactly P beside what old says
pub record Narrows (T : List TableRows) (fixed : ByNull) (old : List Found) (ns : List NullId)
    (P : (NullId → Value) → Type 0)
    (new : List Found) : Type 0 where
  pub begins : IsPrefix old new
  pub good : IsGood T fixed new
  pub whole : ns ⊆ found_nulls new
  pub only : found_nulls new ⊆ (found_nulls old ++ ns)
  pub exact : (g : NullId → Value) → ExtendsPartialMap T fixed new g ↔ (ExtendsPartialMap T fixed old g × P g)

-- nothing of which old is true has P
pub record RulesOut (T : List TableRows) (fixed : ByNull) (old : List Found)
    (P : (NullId → Value) → Type 0) (new : List Found) : Type 0 where
  pub begins : IsPrefix old new
  pub none : (g : NullId → Value) → ExtendsPartialMap T fixed old g → ¬ (P g)

-- there is room for these nulls beside those that were found
abbrev pub HasRoomForNulls : BindingState → List NullId → Type 0
HasRoomForNulls b ns = AtMost (found_nulls b.cells ++ ns) b.room

-- g gives the null of the cell its value
abbrev pub GivesCell : List TableRows → Found → (NullId → Value) → Type 0
GivesCell T b g = g b.null ≡ null_value T b

-- g moves the value to that in a column of the row at a place
abbrev pub GivesValue : List TableRows → Value → ℕ → ℕ → ℕ → (NullId → Value) → Type 0
GivesValue T v t p c g = moved g v ≡ value_at T t p c

-- g moves the row to the row at a place
abbrev pub GivesRow : List TableRows → List Value → ℕ → ℕ → (NullId → Value) → Type 0
GivesRow T row t p g = map (moved g) row ≡ row_at T t p

-- the answer to the question whether something of which old is true has P: new says it beside old, or nothing has P
abbrev pub IsNarrowed : List TableRows → ByNull → List NullId → ((NullId → Value) → Type 0)
    → BindingState → BindingState → Bool → Type 0
IsNarrowed T fixed ns P old new b =
    MatchBool b (Narrows T fixed old.cells ns P new.cells) (RulesOut T fixed old.cells P new.cells)

-- the null, the value, the row is given what stands there, or can't be
abbrev pub MeetsNull : List TableRows → ByNull → Found → BindingState → BindingState → Bool → Type 0
MeetsNull T fixed cell = IsNarrowed T fixed (cell.null ∷ []) (GivesCell T cell)

abbrev pub MeetsValue : List TableRows → ByNull → Value → ℕ → ℕ → ℕ → BindingState → BindingState → Bool → Type 0
MeetsValue T fixed v t p c = IsNarrowed T fixed (nulls_in (v ∷ [])) (GivesValue T v t p c)

abbrev pub MeetsRow : List TableRows → ByNull → List Value → ℕ → ℕ → BindingState → BindingState → Bool → Type 0
MeetsRow T fixed row t p = IsNarrowed T fixed (nulls_in row) (GivesRow T row t p)

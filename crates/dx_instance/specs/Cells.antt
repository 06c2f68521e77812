-- Rows of numbers, as they lie one after the other.
use Rattle.std.specs.Prelude.{◌≡◌, ℕ, zero, suc, ◌+◌, ◌*◌, ◌%◌, ◌^◌, ◌<◌, List, [], ◌∷◌, ◌++◌, length}
use Rattle.std.specs.Prelude.{take, drop, fold, slice_index, slice_index_or, Option, MatchOption}
use Rattle.std.specs.Prelude.{false}
use Rattle.std.specs.Ordering.{is_lt, nat_cmp}
use Rattle.std.specs.Cmp.Lexicographic.{slice_cmp}
use Rattle.std.specs.List.{AllPairs}
use Rattle.std.specs.declared.cmp.Ordering.TheVariants.{Less}
use Rattle.dx_base.specs.Members.{◌∈◌, ◌⊆◌, Each}

-- a table of numbers: how many columns it has, and its rows
pub record NumberTable : Type 0 where
  pub width : ℕ
  pub rows : List (List ℕ)

-- the first n rows of w cells each
abbrev pub rows_of_cells : ℕ → ℕ → List ℕ → List (List ℕ)
rows_of_cells zero w cells = []
rows_of_cells (suc n) w cells = take w cells ∷ rows_of_cells n w (drop w cells)

-- the row at a place
abbrev pub numbers_at : List (List ℕ) → ℕ → List ℕ
numbers_at rows p = slice_index_or rows p []

-- each row is below all that follow
abbrev pub NumbersAscend : List (List ℕ) → Type 0
NumbersAscend rows = AllPairs (λ r s. slice_cmp nat_cmp r s ≡ Less) rows

-- the table with one row more at its end
abbrev pub with_numbers : NumberTable → List ℕ → NumberTable
with_numbers t row = record { width = t.width; rows = t.rows ++ row ∷ [] }

-- the number that is computed of a row, by which it is looked up
abbrev pub key_step : ℕ → ℕ → ℕ
key_step key n = (key * 0x9E37_79B9_7F4A_7C15 % 2 ^ 64 + n) % 2 ^ 64

abbrev pub row_key : List ℕ → ℕ
row_key row = fold key_step 7 row

-- the places of the rows, so that no row is below one before it
pub record PlacesInOrder (rows : List (List ℕ)) (places : List ℕ) : Type 0 where
  pub many : length places ≡ length rows
  pub within : (k : ℕ) → k < length places → slice_index places k < length rows
  pub all : (p : ℕ) → p < length rows → p ∈ places
  pub rise : (k : ℕ) → k + 1 < length places
      → is_lt (slice_cmp nat_cmp (numbers_at rows (slice_index places (k + 1)))
      (numbers_at rows (slice_index places k))) ≡ false

-- the same rows in order, each once
pub record IsOrderOf (old new : NumberTable) : Type 0 where
  pub width : new.width ≡ old.width
  pub ascend : NumbersAscend new.rows
  pub kept : old.rows ⊆ new.rows
  pub only : new.rows ⊆ old.rows

-- a table made of rows: they are put in order, each once
pub record IsPut (old new : NumberTable) : Type 0 where
  pub order : IsOrderOf old new
  pub few : length new.rows < 2 ^ 32
  pub wide : Each new.rows (λ (r : List ℕ). length r ≡ new.width)

-- a place of a row, unless it is not among some of the rows
abbrev pub IsPlaceOf : List (List ℕ) → List (List ℕ) → List ℕ → Option ℕ → Type 0
IsPlaceOf some rows row o = MatchOption o (¬ (row ∈ some)) (λ p. (p < length rows) × (numbers_at rows p ≡ row))

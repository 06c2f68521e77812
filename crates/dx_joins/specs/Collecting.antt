-- Rows that are collected, up to a number.
use Rattle.std.specs.Prelude.{◌≡◌, ◌↔◌, ◌⊎◌, ◌<◌, ◌≤◌, ◌^◌, ℕ, Bool, MatchBool, List, length, take}
use Rattle.dx_base.specs.Members.{◌∈◌, Distinct, Each}
use Rattle.dx_instance.specs.Cells.{NumberTable, NumbersAscend}

-- rows of one width, of which no more than so many distinct ones are wanted
pub record Collection : Type 0 where
  pub width : ℕ
  pub most : ℕ
  pub rows : List (List ℕ)

-- the collection has what it had and what has P, and nothing else
pub record CollectsRows (old new : Collection) (P : List ℕ → Type 0) : Type 0 where
  pub width : new.width ≡ old.width
  pub most : new.most ≡ old.most
  pub exact : (t : List ℕ) → (t ∈ new.rows) ↔ ((t ∈ old.rows) ⊎ P t)

-- the places are within so many numbers, and the collection's rows have a number for each place
pub record TakesPlaces (numbers : ℕ) (places : List ℕ) (out : Collection) : Type 0 where
  pub within : Each places (λ i. i < numbers)
  pub width : out.width ≡ length places

-- more than so many different rows have P
pub record MoreThan (most : ℕ) (P : List ℕ → Type 0) : Type 0 where
  pub some : List (List ℕ)
  pub distinct : Distinct some
  pub each : Each some P
  pub more : most < length some
  pub few : length some < 2 ^ 32

-- the rows are those that have P, ascending and each once
pub record RowsExactly (columns : ℕ) (P : List ℕ → Type 0) (t : NumberTable) : Type 0 where
  pub width : t.width ≡ columns
  pub ascend : NumbersAscend t.rows
  pub exact : (r : List ℕ) → (r ∈ t.rows) ↔ P r

-- there are more rows than are wanted, or else the collection gains those that have P
abbrev pub Collects : Bool → Collection → Collection → (List ℕ → Type 0) → Type 0
Collects full old new P = MatchBool full (MoreThan old.most (λ t. (t ∈ old.rows) ⊎ P t)) (CollectsRows old new P)

-- what is known of the first rows: they ascend
abbrev pub FirstAscend : ℕ → List (List ℕ) → Type 0
FirstAscend n rows = (n ≤ length rows) × NumbersAscend (take n rows)

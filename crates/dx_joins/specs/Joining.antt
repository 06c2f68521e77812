-- Natural joins of rows of numbers.
use Rattle.std.specs.Prelude.{◌≡◌, ◌↔◌, ℕ, Bool, false, true, List, map, flat_map, slice_index_or}
use Rattle.dx_base.specs.Members.{◌∈◌, Each}
use Rattle.dx_instance.specs.Cells.{NumberTable}
use Rattle.dx_instance.specs.Shown.{numbers_of_table}
use Rattle.dx_joins.specs.declared.pattern.Pattern.{Pattern}

-- the rows are what the assignments that have P give to these variables
pub record HasRowsWith (P : (ℕ → ℕ) → Type 0) (variables : List ℕ) (rows : List (List ℕ)) : Type 0 where
  pub exact : (t : List ℕ) → (t ∈ rows) ↔ ((numbers : ℕ → ℕ) × P numbers × (t ≡ map numbers variables))

-- one assignment gives r to the variables of the left, s to those of the right, and t to those that are kept
pub record IsJoinOf (left right kept : List ℕ) (r s t : List ℕ) : Type 0 where
  pub numbers : ℕ → ℕ
  pub first : r ≡ map numbers left
  pub second : s ≡ map numbers right
  pub whole : t ≡ map numbers kept

-- the list has true under each of these numbers
abbrev pub AllMarked : List Bool → List ℕ → Type 0
AllMarked marks row = Each row (λ n. slice_index_or marks n false ≡ true)

-- the numbers of a pattern's variables are a row of its table, each of them marked
abbrev pub MatchesPattern : List NumberTable → List Bool → (ℕ → ℕ) → Pattern → Type 0
MatchesPattern tables marks numbers p =
    (map numbers p.variables.items ∈ (numbers_of_table tables p.table).rows)
    × AllMarked marks (map numbers p.variables.items)

-- so are those of each pattern
abbrev pub MatchesPatterns : List NumberTable → List Bool → List Pattern → (ℕ → ℕ) → Type 0
MatchesPatterns tables marks patterns numbers = Each patterns (MatchesPattern tables marks numbers)

-- the variables of patterns, in order and with repeats
abbrev pub variables_of_patterns : List Pattern → List ℕ
variables_of_patterns patterns = flat_map (λ (p : Pattern). p.variables.items) patterns

-- Variables that are known.
use Rattle.std.specs.Prelude.{◌≡◌, ◌⊎◌, ◌<◌, ℕ, true, false, List, length, slice_index_or}
use Rattle.dx_base.specs.Members.{◌∈◌, Each}
use Rattle.dx_joins.specs.declared.known.Known.{Known}
use Rattle.dx_joins.specs.declared.pattern.Pattern.{Pattern}

-- the variable is known
abbrev pub IsKnown : Known → ℕ → Type 0
IsKnown known x = slice_index_or known.marks.items x false ≡ true

-- a variable of the pattern is known
abbrev pub IsMet : Known → Pattern → Type 0
IsMet known p = (x : ℕ) × (x ∈ p.variables.items) × IsKnown known x

-- each variable of the pattern is known
abbrev pub IsCovered : Known → Pattern → Type 0
IsCovered known p = Each p.variables.items (IsKnown known)

-- each of these variables can become known
abbrev pub HasPlaces : Known → List ℕ → Type 0
HasPlaces known xs = Each xs (λ x. x < length known.marks.items)

-- these variables are known now too, and no others
pub record NowKnown (old new : Known) (xs : List ℕ) : Type 0 where
  pub places : length new.marks.items ≡ length old.marks.items
  pub stay : (x : ℕ) → IsKnown old x → IsKnown new x
  pub known : HasPlaces old xs → Each xs (IsKnown new)
  pub only : (x : ℕ) → IsKnown new x → IsKnown old x ⊎ (x ∈ xs)

-- Values under numbers: the number of a value is its place in a list of distinct values.
use Rattle.std.specs.Prelude.{◌≡◌, ℕ, ◌<◌, ◌≤◌, List, [], ◌++◌, length, slice_index}
use Rattle.std.specs.Prelude.{slice_index_or, Option, None, Some, MatchOption}
use Rattle.std.specs.List.{AllPairs}
use Rattle.std.specs.declared.cmp.Ordering.TheVariants.{Less}
use Rattle.dx_base.specs.Members.{◌∈◌, ◌⊆◌}
use Rattle.dx_model.specs.declared.values.NullId.{NullId}
use Rattle.dx_model.specs.declared.values.Value.{Value}
use Rattle.dx_model.specs.declared.values.Value.TheVariants.{Const, Null}
use Rattle.dx_model.specs.Values.{value_cmp}

-- the value under a number
abbrev pub value_of : List Value → ℕ → Value
value_of symbols n = slice_index_or symbols n (Const [])

-- no value stands at two places
abbrev pub ValuesDiffer : List Value → Type 0
ValuesDiffer symbols = AllPairs (λ v w. ¬ (v ≡ w)) symbols

-- each value is below all that follow, so numbers compare as their values
abbrev pub ValuesAscend : List Value → Type 0
ValuesAscend symbols = AllPairs (λ v w. value_cmp v w ≡ Less) symbols

-- a constant, whatever its text
abbrev pub IsConstant : Value → Type 0
IsConstant v = (text : List ℕ) × (v ≡ Const text)

-- a null, whichever it is
abbrev pub IsSomeNull : Value → Type 0
IsSomeNull v = (n : NullId) × (v ≡ Null n)

-- the values of a block, if there is one
abbrev pub values_if : {B : Type 0} → Option B → (B → List Value) → List Value
values_if None values = []
values_if (Some b) values = values b

-- the new list begins with the old one: no number changes its value
pub record Extends (old new : List Value) : Type 0 where
  pub more : List Value
  pub is : new ≡ old ++ more

-- the distinct old values in order, each old number n as ranks[n]
pub record IsOrdering (old new : List Value) (ranks : List ℕ) : Type 0 where
  pub ascend : ValuesAscend new
  pub fewer : length new ≤ length old
  pub only : new ⊆ old
  pub ranked : length ranks ≡ length old
  pub within : (n : ℕ) → n < length old → slice_index ranks n < length new
  pub at : (n : ℕ) → n < length old → value_of new (slice_index ranks n) ≡ value_of old n

-- the number of a value, if it has one
abbrev pub IsNumberOf : List Value → Value → Option ℕ → Type 0
IsNumberOf symbols v o = MatchOption o (¬ (v ∈ symbols)) (λ n. (n < length symbols) × (value_of symbols n ≡ v))

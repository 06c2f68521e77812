-- Null maps as finite maps.
use Rattle.std.specs.Prelude.{◌≡◌, ℕ, List, map, refl, Bool, false, if◌then◌else◌}
use Rattle.std.specs.Prelude.{[], ◌∷◌, ◌++◌, ◌<◌, length, Option, Some, None, ◌⊎◌}
use Rattle.std.specs.declared.cmp.Ordering.TheVariants.{Less}
use Rattle.std.specs.FinMap as finite
use Rattle.std.specs.Coded.{Coded, code_by, coded×, coded_ℕ}
use Rattle.dx_base.specs.Members.{Each, ◌∈◌, ◌⊆◌}
use Rattle.dx_model.specs.declared.values.Value.TheVariants.{Const, Null}
use Rattle.dx_model.specs.Instances.{given, moved, same_null}
use Rattle.dx_model.specs.declared.values.NullId.{NullId}
use Rattle.dx_model.specs.declared.values.Value.{Value}
use Rattle.dx_model.specs.declared.facts.NullPair.{NullPair}
use Rattle.dx_model.specs.Values.{Ascends, null_cmp}

-- a null is stored as three numbers
abbrev pub coded_null : Coded NullId
coded_null =
    code_by (ℕ × (ℕ × ℕ)) (coded× coded_ℕ (coded× coded_ℕ coded_ℕ)) (λ n. (n.rule, (n.var, n.row)))
    (λ p. record { rule = p.0; var = p.1.0; row = p.1.1 }) (λ _. refl)

-- values by null
abbrev pub ByNull : Type 0
ByNull = finite.FinMap null_cmp Value

-- the pairs of a finite map, ascending by null
abbrev pub pairs_of : ByNull → List NullPair
pairs_of m = map (λ (e : NullId × Value). record { null = e.0; value = e.1 }) (finite.entries m)

-- whether the value is the null itself
abbrev pub is_itself : NullId → Value → Bool
is_itself n (Const t) = false
is_itself n (Null m) = same_null m n

-- the finite map with a value for a null; a null that gets itself is taken off
abbrev pub with_value : ByNull → NullId → Value → ByNull
with_value m n v = if is_itself n v then finite.remove m n else finite.insert m n v

-- no entry has the null itself as its value
abbrev pub NoneIsItself : List (NullId × Value) → Type 0
NoneIsItself entries = Each entries (λ (e : NullId × Value). ¬ (e.1 ≡ Null e.0))

abbrev pub or_itself : NullId → Option Value → Value
or_itself n None = Null n
or_itself n (Some v) = v

-- what a null becomes: one that is not listed stays
abbrev pub becomes : ByNull → NullId → Value
becomes m n = or_itself n (finite.get m n)

-- c gives each null what b makes of what a gives it
abbrev pub IsAfter : ByNull → ByNull → ByNull → Type 0
IsAfter a b c = (n : NullId) → given (pairs_of c) n ≡ moved (given (pairs_of b)) (given (pairs_of a) n)

-- a pair with the image of its value
abbrev pub pair_after : ByNull → NullPair → NullPair
pair_after m p = record { null = p.null; value = moved (becomes m) p.value }

-- pairs as entries
abbrev pub entries_in : List NullPair → List (NullId × Value)
entries_in ps = map (λ (p : NullPair). (p.null, p.value)) ps

-- the null of each pair is below those of all that follow
abbrev pub PairsAscend : List NullPair → Type 0
PairsAscend = Ascends (λ p q. null_cmp p.null q.null ≡ Less)

-- no pair gives its null the null itself
abbrev pub NoPairIsItself : List NullPair → Type 0
NoPairIsItself ps = Each ps (λ (p : NullPair). ¬ (p.value ≡ Null p.null))

-- what holds of ascending pairs and of a tree, one of which has all that a null map lists
pub record StoresNulls (pairs : List NullPair) (tree : List (NullId × Value)) : Type 0 where
  pub ascend : PairsAscend pairs
  pub proper : NoPairIsItself pairs
  pub others : NoneIsItself tree
  pub one : (tree ≡ []) ⊎ (pairs ≡ [])

-- the finite map of entries: the first with a null counts
abbrev pub map_of_entries : List (NullId × Value) → ByNull
map_of_entries es = finite.from_entries es

-- the pairs with a null and its value at their end, unless it gets itself
abbrev pub with_proper : List NullPair → NullId → Value → List NullPair
with_proper ps n v = if is_itself n v then ps else ps ++ record { null = n; value = v } ∷ []

-- the pair that comes next of two ascending lists, and what is left of both
pub record IsMergeStep (first second : List NullPair) (pair : NullPair) (rest others : List NullPair) : Type 0 where
  pub fewer : length (rest ++ others) < length (first ++ second)
  pub ascend : PairsAscend rest × PairsAscend others
  pub kept : (rest ++ others) ⊆ (first ++ second)
  pub is : pair ∈ (first ++ second)
  pub below : Each (rest ++ others) (λ (p : NullPair). null_cmp pair.null p.null ≡ Less)
  pub gives : (n : NullId) → given (first ++ second) n ≡ given (pair ∷ rest ++ others) n

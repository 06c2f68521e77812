-- Trees of numbers: each number has a parent, and a root is its own. The numbers stand for places of nulls.
use Rattle.std.specs.Prelude.{◌≡◌, ◌↔◌, ℕ, ◌<◌, ◌≤◌, List, length, slice_index}
use Rattle.dx_model.specs.declared.values.NullId.{NullId}
use Rattle.dx_model.specs.declared.facts.Fact.{Fact}
use Rattle.dx_model.specs.Blocks.{Connected}
use Rattle.dx_model.specs.Values.{null_at}

-- each parent is no greater
abbrev pub Falls : List ℕ → Type 0
Falls parents = (k : ℕ) → k < length parents → slice_index parents k ≤ k

-- each of n numbers has a parent, which is no greater
pub record IsForest (n : ℕ) (parents : List ℕ) : Type 0 where
  pub many : length parents ≡ n
  pub falls : Falls parents

-- c gives each number the label of its parent, and so one label to each tree
abbrev pub Respects : List ℕ → (ℕ → ℕ) → Type 0
Respects parents c = (k : ℕ) → k < length parents → c k ≡ c (slice_index parents k)

-- each null is connected with that of its parent
abbrev pub ParentsAreConnected : List Fact → List NullId → List ℕ → Type 0
ParentsAreConnected A ns parents =
    (k : ℕ) → k < length parents → Connected A (null_at ns k) (null_at ns (slice_index parents k))

-- the trees have the same numbers and roots as before
pub record SameTrees (old new : List ℕ) : Type 0 where
  pub many : length new ≡ length old
  pub falls : Falls new
  pub roots : (k : ℕ) → k < length old → slice_index old k ≡ k → slice_index new k ≡ k
  pub respects : (c : ℕ → ℕ) → Respects old c ↔ Respects new c
  pub tied : (A : List Fact) (ns : List NullId) → ParentsAreConnected A ns old ↔ ParentsAreConnected A ns new

-- r stands in the tree of k
pub record IsInTree (parents : List ℕ) (k r : ℕ) : Type 0 where
  pub within : r < length parents
  pub respects : (c : ℕ → ℕ) → Respects parents c → c k ≡ c r
  pub tied : (A : List Fact) (ns : List NullId) → ParentsAreConnected A ns parents
      → Connected A (null_at ns k) (null_at ns r)

-- r is the root of that tree
abbrev pub IsRootOf : List ℕ → ℕ → ℕ → Type 0
IsRootOf parents k r = IsInTree parents k r × (slice_index parents r ≡ r)

-- the trees of a and b are one now, and no others
pub record IsTreeUnion (old new : List ℕ) (a b : ℕ) : Type 0 where
  pub many : length new ≡ length old
  pub falls : Falls new
  pub respects : (c : ℕ → ℕ) → Respects new c → Respects old c
  pub one : (c : ℕ → ℕ) → Respects new c → c a ≡ c b
  pub tied : (A : List Fact) (ns : List NullId) → Connected A (null_at ns a) (null_at ns b)
      → ParentsAreConnected A ns old → ParentsAreConnected A ns new

-- each parent is a root
abbrev pub IsFlat : List ℕ → Type 0
IsFlat parents = (k : ℕ) → k < length parents → slice_index parents (slice_index parents k) ≡ slice_index parents k

-- Labels of nulls: two nulls have one label exactly if facts connect them. Nulls and labels go by places.
use Rattle.std.specs.Prelude.{◌≡◌, ◌↔◌, ℕ, ◌<◌, ◌≤◌, Bool, nat_lt, List, [], length, slice_index, slice_index_or}
use Rattle.dx_base.specs.Members.{◌∈◌}
use Rattle.dx_model.specs.declared.values.NullId.{NullId}
use Rattle.dx_model.specs.declared.values.Value.{Value}
use Rattle.dx_model.specs.declared.values.Value.TheVariants.{Null}
use Rattle.dx_model.specs.declared.facts.Fact.{Fact}
use Rattle.dx_model.specs.Values.{FactsAscend, NullsAscend, null_at}
use Rattle.dx_model.specs.Blocks.{Connected}
use Rattle.dx_blocks.specs.declared.block.Block.{Block}
use Rattle.dx_blocks.specs.Nulls.{AreNulls, StandsIn}
use Rattle.dx_blocks.specs.Forest.{Respects, Falls, ParentsAreConnected}

-- the nulls of the row stand in one tree
abbrev pub ConnectsRow : List NullId → List ℕ → List Value → Type 0
ConnectsRow ns parents row = (c : ℕ → ℕ) → Respects parents c → (p q : ℕ) → StandsIn ns row p → StandsIn ns row q → c p ≡ c q

-- the trees of the nulls of the row are one now, and no others
pub record JoinsRow (ns : List NullId) (row : List Value) (old new : List ℕ) : Type 0 where
  pub many : length new ≡ length old
  pub falls : Falls new
  pub respects : (c : ℕ → ℕ) → Respects new c → Respects old c
  pub one : ConnectsRow ns new row
  pub tied : (A : List Fact) (f : Fact) → f ∈ A → f.row ≡ row → ParentsAreConnected A ns old
      → ParentsAreConnected A ns new

-- the trees of the nulls of each fact are one now, and no others
pub record JoinsAll (A : List Fact) (ns : List NullId) (old new : List ℕ) : Type 0 where
  pub many : length new ≡ length old
  pub falls : Falls new
  pub one : (f : Fact) → f ∈ A → ConnectsRow ns new f.row
  pub tied : ParentsAreConnected A ns old → ParentsAreConnected A ns new

-- the label of a null is the least place of those that are connected with it
pub record AreLabels (A : List Fact) (ns : List NullId) (labels : List ℕ) : Type 0 where
  pub many : length labels ≡ length ns
  pub least : (k : ℕ) → k < length ns → slice_index labels k ≤ k
  pub itself : (k : ℕ) → k < length ns → slice_index labels (slice_index labels k) ≡ slice_index labels k
  pub exactly : (p q : ℕ) → p < length ns → q < length ns
      → (slice_index labels p ≡ slice_index labels q) ↔ Connected A (null_at ns p) (null_at ns q)

-- ns has the nulls of A, and ls their labels
pub record NullsLabelled (A : List Fact) (ns : List NullId) (ls : List ℕ) : Type 0 where
  pub nulls : AreNulls A ns
  pub labels : AreLabels A ns ls

-- the null stands at a place with this label
pub record HasLabel (ns : List NullId) (labels : List ℕ) (label : ℕ) (n : NullId) : Type 0 where
  pub place : ℕ
  pub within : place < length ns
  pub is : null_at ns place ≡ n
  pub labelled : slice_index labels place ≡ label

-- the fact holds a null with this label
abbrev pub HoldsLabel : List NullId → List ℕ → ℕ → Fact → Type 0
HoldsLabel ns labels label f = (n : NullId) × (Null n ∈ f.row) × HasLabel ns labels label n

-- the block at a place
abbrev pub block_at : List Block → ℕ → Block
block_at bs k = slice_index_or bs k (record { nulls = []; facts = [] })

-- some of the nulls and facts are put into blocks, of which there is one for each place: block k has those nulls that
-- have the label k, and those facts that hold such a null
pub record BlocksFilled (ns : List NullId) (labels : List ℕ) (some : List NullId) (held : List Fact)
    (bs : List Block) : Type 0 where
  pub many : length bs ≡ length ns
  pub nulls : (k : ℕ) → k < length ns → NullsAscend (block_at bs k).nulls
      × ((n : NullId) → (n ∈ (block_at bs k).nulls) ↔ ((n ∈ some) × HasLabel ns labels k n))
  pub facts : (k : ℕ) → k < length ns → FactsAscend (block_at bs k).facts
      × ((f : Fact) → (f ∈ (block_at bs k).facts) ↔ ((f ∈ held) × HoldsLabel ns labels k f))

-- whether a block has nulls
abbrev pub has_nulls : Block → Bool
has_nulls b = nat_lt 0 (length b.nulls)

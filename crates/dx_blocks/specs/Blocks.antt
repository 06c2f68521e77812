-- The blocks of an instance, in order.
use Rattle.std.specs.Prelude.{◌↔◌, List, map, slice_index_or}
use Rattle.dx_base.specs.Members.{◌∈◌, Each}
use Rattle.dx_model.specs.declared.values.NullId.{NullId}
use Rattle.dx_model.specs.declared.values.Value.TheVariants.{Null}
use Rattle.dx_model.specs.declared.facts.Fact.{Fact}
use Rattle.dx_model.specs.Values.{FactsAscend, NullsAscend}
use Rattle.dx_model.specs.Instances.{values}
use Rattle.dx_model.specs.Blocks.{Connected, IsBlock}
use Rattle.dx_blocks.specs.declared.block.Block.{Block}

-- b is the block of n: the nulls of A that are connected with n, and the facts that hold one of them
pub record IsBlockOf (A : List Fact) (n : NullId) (b : Block) : Type 0 where
  pub nulls : (m : NullId) → (m ∈ b.nulls) ↔ ((Null m ∈ values A) × Connected A n m)
  pub facts : IsBlock A n b.facts
  pub nulls_ascend : NullsAscend b.nulls
  pub facts_ascend : FactsAscend b.facts

-- the least null of a block, which is its first
abbrev pub least : Block → NullId
least b = slice_index_or b.nulls 0 (record { rule = 0; var = 0; row = 0 })

-- the blocks of A: each is the block of its least null; each null of A stands in one; their least nulls ascend
pub record AreBlocks (A : List Fact) (bs : List Block) : Type 0 where
  pub each : Each bs (λ b. (least b ∈ b.nulls) × IsBlockOf A (least b) b)
  pub all : (n : NullId) → Null n ∈ values A → (b : Block) × (b ∈ bs) × (n ∈ b.nulls)
  pub ascend : NullsAscend (map least bs)

-- The laws of blocks. Each is the clause of a public function with an empty body.
use Rattle.std.specs.Prelude.{◌≡◌, List}
use Rattle.dx_base.specs.Members.{◌∈◌, Each}
use Rattle.dx_model.specs.declared.values.NullId.{NullId}
use Rattle.dx_model.specs.declared.values.Value.TheVariants.{Null}
use Rattle.dx_model.specs.declared.facts.Fact.{Fact}
use Rattle.dx_model.specs.Blocks.{IsClosedPart}
use Rattle.dx_blocks.specs.declared.block.Block.{Block}
use Rattle.dx_blocks.specs.Blocks.{AreBlocks}

-- an instance has one list of blocks
abbrev pub OneBlockList : Type 0
OneBlockList = (A : List Fact) (bs cs : List Block) → AreBlocks A bs → AreBlocks A cs → bs ≡ cs

-- each block is a closed part
abbrev pub BlocksAreClosed : Type 0
BlocksAreClosed = (A : List Fact) (bs : List Block) → AreBlocks A bs → Each bs (λ b. IsClosedPart A b.facts)

-- each fact that holds a null stands in a block
abbrev pub EachInBlock : Type 0
EachInBlock =
    (A : List Fact) (bs : List Block) (f : Fact) (n : NullId) → AreBlocks A bs → f ∈ A → Null n ∈ f.row
    → (b : Block) × (b ∈ bs) × (f ∈ b.facts)

-- blocks with a fact in common are one
abbrev pub BlocksAreApart : Type 0
BlocksAreApart =
    (A : List Fact) (bs : List Block) (b c : Block) (f : Fact) → AreBlocks A bs → b ∈ bs → c ∈ bs
    → f ∈ b.facts → f ∈ c.facts → b ≡ c

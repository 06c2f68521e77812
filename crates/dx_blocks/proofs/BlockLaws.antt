-- Blocks go by the members of the instance, there is one list of them, and they are closed parts without common facts.
use Rattle.std.proofs.Common.{◌≡◌, ℕ, List, [], ◌∷◌, ◌++◌, ◌∙◌, length, take, ap, subst, map, Result, Ok, Err, Vec, Global}
use Rattle.std.specs.Prelude.{IfOk}
use Rattle.std.specs.List.{filter}
use Rattle.std.specs.declared.alloc.AllocError.{AllocError}
use Rattle.std.specs.declared.cmp.Ordering.TheVariants.{Less}
use Rattle.std.proofs.lemmas.Cmp.{on_total}
use Rattle.std.proofs.lemmas.List.{take_at}
use Rattle.dx_base.specs.Members.{◌∈◌, ◌⊆◌, ◌≈◌}
use Rattle.dx_base.proofs.Members.{in_flat_map, in_map}
use Rattle.dx_model.specs.declared.values.NullId.{NullId}
use Rattle.dx_model.specs.declared.values.Value.TheVariants.{Null}
use Rattle.dx_model.specs.declared.facts.Fact.{Fact}
use Rattle.dx_model.specs.Values.{Ascends, NullsAscend, null_cmp, fact_cmp}
use Rattle.dx_model.specs.Blocks.{Connected}
use Rattle.dx_model.proofs.Ascending.{one_ascending}
use Rattle.dx_model.proofs.ByMembers.{values_part}
use Rattle.dx_model.proofs.Orders.{null_total, fact_total}
use Rattle.dx_model.proofs.Reduction.{block_closed}
use Rattle.dx_blocks.specs.declared.block.Block.{Block}
use Rattle.dx_blocks.specs.Blocks.{AreBlocks, IsBlockOf, least}
use Rattle.dx_blocks.specs.Nulls.{AreNulls}
use Rattle.dx_blocks.specs.Labels.{BlocksFilled, AreLabels, has_nulls}
use Rattle.dx_blocks.specs.Laws.{OneBlockList, BlocksAreClosed, EachInBlock, BlocksAreApart}
use Rattle.dx_blocks.proofs.Connections.{connected_by, connected_trans, connected_sym, connected_more}
use Rattle.dx_blocks.proofs.BlockParts.{filled_are}

-- ---- the members of the instance count

block_by_members : (A B : List Fact) (n : NullId) (b : Block) → A ≈ B → IsBlockOf A n b → IsBlockOf B n b
block_by_members A B n b s o = record {
  nulls = λ m. (
    (λ i. let w = (o.nulls m).0 i in (values_part A B s.0 (Null m) w.0, connected_more s.0 w.1)),
    (λ w. (o.nulls m).1 (values_part B A s.1 (Null m) w.0, connected_more s.1 w.1)),
  );
  facts = λ f. (
    (λ i. let w = (o.facts f).0 i in (s.0 f w.0, w.1, connected_more s.0 w.2, w.3)),
    (λ w. (o.facts f).1 (s.1 f w.0, w.1, connected_more s.1 w.2, w.3)),
  );
  nulls_ascend = o.nulls_ascend;
  facts_ascend = o.facts_ascend;
}

pub blocks_by_members : (A B : List Fact) (bs : List Block) → A ≈ B → AreBlocks A bs → AreBlocks B bs
blocks_by_members A B bs s a = record {
  each = λ b m. let w = a.each b m in (w.0, block_by_members A B (least b) b s w.1);
  all = λ n v. a.all n (values_part B A s.1 (Null n) v);
  ascend = a.ascend;
}

-- what `blocks` answers, as the list of blocks is written back
pub blocks_are : (r : Result (Vec Block Global) AllocError) (A F : List Fact) (ns : List NullId) (labels : List ℕ)
    (bs rest : List Block) (n : ℕ) → F ≈ A → AreNulls F ns → AreLabels F ns labels → BlocksFilled ns labels ns F bs → length bs ≡ n
    → IfOk r (λ v. v.items ≡ filter has_nulls (take n (bs ++ rest))) → IfOk r (λ v. AreBlocks A v.items)
blocks_are (Ok v) A F ns labels bs rest n s a g f l e =
    rw (e ∙ ap (filter has_nulls) (take_at bs rest n l)) (blocks_by_members F A (filter has_nulls bs) s (filled_are F ns ns labels bs a.ascend (λ m. (a.exactly m).1) a.exactly g f))
blocks_are (Err x) A F ns labels bs rest n s a g f l e = tt

-- ---- one list

-- blocks of connected nulls are one
one_block : (A : List Fact) (n m : NullId) (b c : Block) → IsBlockOf A n b → IsBlockOf A m c → Connected A n m → b ≡ c
one_block A n m b c o p k =
    let nulls = one_ascending null_cmp null_total b.nulls c.nulls o.nulls_ascend p.nulls_ascend
    (λ l i. let w = (o.nulls l).0 i in (p.nulls l).1 (w.0, connected_trans (connected_sym k) w.1))
    (λ l i. let w = (p.nulls l).0 i in (o.nulls l).1 (w.0, connected_trans k w.1)) in
    let facts = one_ascending fact_cmp fact_total b.facts c.facts o.facts_ascend p.facts_ascend
    (λ f i. let w = (o.facts f).0 i in (p.facts f).1 (w.0, w.1, connected_trans (connected_sym k) w.2, w.3))
    (λ f i. let w = (p.facts f).0 i in (o.facts f).1 (w.0, w.1, connected_trans k w.2, w.3)) in
    (λ i. record { nulls = nulls i; facts = facts i })

all_there : (A : List Fact) (bs cs : List Block) → AreBlocks A bs → AreBlocks A cs → bs ⊆ cs
all_there A bs cs x y b m =
    let o = x.each b m in
    let w = y.all (least b) ((o.1.nulls (least b)).0 o.0).0 in
    let p = y.each w.0 w.1 in
    subst (λ (c : Block). c ∈ cs)
    (one_block A (least w.0) (least b) w.0 b p.1 o.1 ((p.1.nulls (least b)).0 w.2).1) w.1

abbrev BlockLess : Block → Block → Type 0
BlockLess b c = null_cmp (least b) (least c) ≡ Less

by_least : (bs : List Block) → NullsAscend (map least bs) → Ascends BlockLess bs
by_least [] a = tt
by_least (b ∷ bs) a = ((λ c m. a.0 (least c) (in_map least m)), by_least bs a.1)

pub one_list : OneBlockList
one_list A bs cs x y =
    one_ascending (λ b c. null_cmp (least b) (least c)) (on_total least null_total) bs cs (by_least bs x.ascend) (by_least cs y.ascend)
    (all_there A bs cs x y) (all_there A cs bs y x)

-- ---- parts

pub blocks_closed : BlocksAreClosed
blocks_closed A bs a b m = block_closed A b.facts (least b) (a.each b m).1.facts

pub each_in_block : EachInBlock
each_in_block A bs f n a m i =
    let w = a.all n (in_flat_map (λ (e : Fact). e.row) m i) in
    let o = (a.each w.0 w.1).1 in
    (w.0, w.1, (o.facts f).1 (m, n, ((o.nulls n).0 w.2).1, i))

pub blocks_apart : BlocksAreApart
blocks_apart A bs b c f a m n i j =
    let o = (a.each b m).1 in
    let p = (a.each c n).1 in
    let w = (o.facts f).0 i in
    let v = (p.facts f).0 j in
    one_block A (least b) (least c) b c o p
    (connected_trans w.2 (connected_trans (connected_by f w.0 w.3 v.3) (connected_sym v.2)))

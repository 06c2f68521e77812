use Rattle.std.proofs.Common.{List, subst, sym}
use Rattle.dx_base.proofs.Loops.{all_so, each_item, each_more, not_so}
use Rattle.dx_base.proofs.Members.{item_in}
use Rattle.dx_instance.specs.Stored.{facts}
use Rattle.dx_blocks.specs.declared.block.Block.{Block}
use Rattle.dx_blocks.specs.Blocks.{AreBlocks}
use Rattle.dx_judge.specs.Open.{CanMove}
use Rattle.dx_judge.proofs.Moves.{blocks_fit}
use Rattle.dx_judge.proofs.mapping.blocks_move.Goals as goal

pub loop-block-init : goal.loop-block-init
loop-block-init c = λ b m. elim m [ ]

pub moves_into-requires-clause-fit : goal.moves_into-requires-clause-fit
moves_into-requires-clause-fit c =
    rw c.items.ensures (blocks_fit c.args.from.now c.args.into.now.plain.now c.deref-block-items.result.now c.block-item.result c.requires.widths c.tables.ensures.rows
    (subst (λ (bs : List Block). AreBlocks (facts c.args.from.now) bs) (sym c.deref-block-items.ensures.value) c.in_ok-all.ensures)
    (item_in c.deref-block-items.result.now c.loop-block.block-index c.block-item.result c.loop-block-test.true c.block-item.is))

pub returns-then-not-branch : goal.returns-then-not-branch
returns-then-not-branch c = (
  c.deref-block-items.result.now,
  subst (λ (bs : List Block). AreBlocks (facts c.args.from.now) bs) (sym c.deref-block-items.ensures.value) c.in_ok-all.ensures,
  not_so c.if-not-branch.true (rw c.items.ensures at c.in_ok-moves_into.ensures)
      (each_item (λ (b : Block). CanMove b.facts (facts c.args.into.now.plain.now)) c.deref-block-items.result.now c.loop-block.block-index c.block-item.result
      c.loop-block-test.true c.block-item.is),
)

pub loop-block-preserved : goal.loop-block-preserved
loop-block-preserved c =
    each_more (λ (b : Block). CanMove b.facts (facts c.args.into.now.plain.now)) c.deref-block-items.result.now c.loop-block.block-index c.block-item.result
    c.loop-block-test.true c.block-item.is c.loop-block.invariant
    ((rw c.items.ensures at c.in_ok-moves_into.ensures).0 c.if-not-branch.false)

pub returns : goal.returns
returns c = (
  c.deref-block-items.result.now,
  subst (λ (bs : List Block). AreBlocks (facts c.args.from.now) bs) (sym c.deref-block-items.ensures.value) c.in_ok-all.ensures,
  all_so (λ (b : Block). CanMove b.facts (facts c.args.into.now.plain.now)) c.deref-block-items.result.now c.loop-block.block-index c.loop-block-test.false
      c.loop-block.invariant (λ q. q),
)

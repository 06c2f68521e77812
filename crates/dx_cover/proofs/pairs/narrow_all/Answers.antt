use Rattle.std.proofs.Common.{◌∙◌, sym}
use Rattle.dx_base.specs.Members.{behind}
use Rattle.dx_base.proofs.Members.{item_in}
use Rattle.dx_cover.specs.Pairs.{IsChoice}
use Rattle.dx_cover.proofs.Pairing.{each_pushed, none_behind, none_left}
use Rattle.dx_cover.proofs.pairs.narrow_all.Goals as goal

pub narrow_by_all-requires-clause-own : goal.narrow_by_all-requires-clause-own
narrow_by_all-requires-clause-own c = c.requires c.choice-item.result (item_in c.args.all.now c.loop-choice.choice-index c.choice-item.result c.loop-choice-test.true c.choice-item.is)

pub returns-then-is_empty : goal.returns-then-is_empty
returns-then-is_empty c = λ i.
    none_left i c.args.part.now.bound.now c.args.part.now.rest.now c.args.part.now.others.now c.in_ok-narrower.narrower.atom.now (behind c.in_ok-narrower.narrower.left.items)
    (none_behind c.in_ok-narrower.narrower.left.items c.in_ok-narrower.narrower.left.len c.in_ok-narrower.narrower.left.ok.0 (sym c.is_empty.ensures ∙ c.if-is_empty.true)) c.in_ok-narrower.ensures

pub loop-choice-preserved : goal.loop-choice-preserved
loop-choice-preserved c = each_pushed (IsChoice c.args.part.now) c.loop-choice.next.items _ _ c.in_ok-push.ensures.items c.loop-choice.invariant c.in_ok-narrower.ensures

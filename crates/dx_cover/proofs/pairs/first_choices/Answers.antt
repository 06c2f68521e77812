use Rattle.dx_base.proofs.Members.{item_in}
use Rattle.dx_cover.specs.Pairs.{IsChoice}
use Rattle.dx_cover.proofs.Pairing.{each_pushed}
use Rattle.dx_cover.proofs.pairs.first_choices.Goals as goal

pub choice_of-requires-clause-own : goal.choice_of-requires-clause-own
choice_of-requires-clause-own c = item_in c.args.part.now.rest.now c.loop-atom.atom-index c.atom-item.result c.loop-atom-test.true c.atom-item.is

pub loop-atom-preserved : goal.loop-atom-preserved
loop-atom-preserved c = each_pushed (IsChoice c.args.part.now) c.loop-atom.all.items _ _ c.in_ok-push.ensures.items c.loop-atom.invariant c.in_ok-choice_of.ensures

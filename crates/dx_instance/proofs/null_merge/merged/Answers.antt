use Rattle.dx_instance.proofs.MergeFacts.{merging_goes_on}
use Rattle.dx_instance.proofs.null_merge.merged.Goals as goal

pub loop-turn-preserved : goal.loop-turn-preserved
loop-turn-preserved c =
    merging_goes_on c.args.first.now c.args.second.now c.loop-turn.all.items c.push_proper.new.pairs.items c.loop-turn.rest.now c.loop-turn.others.now c.in-Some.turn.rest.now c.in-Some.turn.others.now c.in-Some.turn.pair.now
    c.in_ok-copy_value.field-0 c.in_ok-copy_value.ensures c.loop-turn.invariant c.in-Some.ensures.some c.in_ok-push_proper.ensures.ok

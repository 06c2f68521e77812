use Rattle.std.proofs.Common.{get_or}
use Rattle.std.proofs.lemmas.List.{take_more}
use Rattle.dx_chase.proofs.WorkFacts.{adds_fresh, adds_last}
use Rattle.dx_chase.proofs.work.Work.add.Goals as goal

pub loop-one-preserved : goal.loop-one-preserved
loop-one-preserved c =
    rw (take_more c.args.more.now c.loop-one.one-index 0 c.loop-one-test.true)
    (adds_last _ _ c.loop-one.self-inside.woken.items c.push.new.self.items c.loop-one.self-inside.fresh (get_or c.args.more.now c.loop-one.one-index 0)
    c.in_ok-push.ensures.items c.loop-one.invariant)

pub loop-one-preserved-then-one-self : goal.loop-one-preserved-then-one-self
loop-one-preserved-then-one-self c =
    rw (take_more c.args.more.now c.loop-one.one-index 0 c.loop-one-test.true)
    (adds_fresh _ _ c.loop-one.self-inside.woken.items c.loop-one.self-inside.fresh (get_or c.args.more.now c.loop-one.one-index 0)
    c.if-one-self.true c.loop-one.invariant)

use Rattle.std.proofs.lemmas.List.{take_all}
use Rattle.dx_joins.proofs.Knowing.{above_more}
use Rattle.dx_joins.proofs.known.above_all.Goals as goal

pub loop-pattern-preserved : goal.loop-pattern-preserved
loop-pattern-preserved c =
    above_more c.args.patterns.now c.loop-pattern.pattern-index c.loop-pattern.all _ c.pattern-item.result c.deref.result.now c.loop-pattern-test.true c.pattern-item.is c.deref.ensures.value
    c.above-all.ensures.least c.above-all.ensures.above c.loop-pattern.invariant

pub returns : goal.returns
returns c = rw (take_all c.loop-pattern.pattern-index c.args.patterns.now c.loop-pattern-test.false) at c.loop-pattern.invariant

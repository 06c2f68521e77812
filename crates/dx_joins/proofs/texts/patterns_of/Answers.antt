use Rattle.std.proofs.lemmas.List.{take_all}
use Rattle.dx_joins.proofs.Translating.{patterns_more}
use Rattle.dx_joins.proofs.texts.patterns_of.Goals as goal

pub loop-atom-preserved : goal.loop-atom-preserved
loop-atom-preserved c = rw c.in_ok-push.ensures.items (patterns_more c.args.premise.now c.loop-atom.patterns.items c.loop-atom.atom-index c.atom-item.result c.in_ok-pattern_of.field-0 c.loop-atom-test.true c.atom-item.is c.in_ok-pattern_of.ensures c.loop-atom.invariant)

pub returns : goal.returns
returns c = rw (take_all c.loop-atom.atom-index c.args.premise.now c.loop-atom-test.false) at c.loop-atom.invariant

use Rattle.dx_base.proofs.Members.{item_in}
use Rattle.dx_cover.proofs.pairs.narrow_by_all.Goals as goal

pub narrow-requires-clause-other : goal.narrow-requires-clause-other
narrow-requires-clause-other c = c.requires.others c.by-item.result (item_in c.args.all.now c.loop-by.by-index c.by-item.result c.loop-by-test.true c.by-item.is)

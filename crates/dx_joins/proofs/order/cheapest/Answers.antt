use Rattle.dx_base.proofs.Loops.{each_item}
use Rattle.dx_joins.specs.Planning.{FitPattern}
use Rattle.dx_joins.proofs.order.cheapest.Goals as goal

pub cost_of-least-requires : goal.cost_of-least-requires
cost_of-least-requires c =
    each_item (FitPattern c.args.source.now.tables) c.args.patterns.now c.args.first c.index-patterns-first.result c.requires.first
    c.index-patterns-first.is c.requires.fit

pub cost_of-next-requires : goal.cost_of-next-requires
cost_of-next-requires c =
    each_item (FitPattern c.args.source.now.tables) c.args.patterns.now c.loop-place.place c.index-patterns-place.result
    c.loop-place-test.true c.index-patterns-place.is c.requires.fit

use Rattle.std.proofs.Common.{sym, ◌∙◌}
use Rattle.dx_ways.proofs.Adding.{put_after}
use Rattle.dx_ways.proofs.trying.place_for.Goals as goal

pub loop-i-preserved : goal.loop-i-preserved
loop-i-preserved c =
    put_after c.args.pick.now c.index-found-i.result c.args.found.now c.loop-i.i c.loop-i-test.true c.index-found-i.is (sym c.pick_order.ensures ∙ c.in-Greater.is) c.loop-i.invariant

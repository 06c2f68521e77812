use Rattle.std.proofs.Common.{arith}
use Rattle.dx_eval.proofs.Lists.{keys_are}
use Rattle.dx_eval.proofs.keys.keys_of.Goals as goal

pub returns-clause-keys : goal.returns-clause-keys
returns-clause-keys c =
    keys_are c.in_order.result c.loop-place.keys c.args.columns.now c.args.rows.now.rows c.loop-place.place (omega (arith, c.loop-place-test.false, c.count-count.ensures.count)) c.loop-place.invariant.rows c.in_order.ensures

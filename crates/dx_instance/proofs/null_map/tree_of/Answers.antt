use Rattle.std.proofs.Common.{◌<◌, ◌-◌, length, arith}
use Rattle.dx_instance.proofs.StoreFacts.{tree_more}
use Rattle.dx_instance.proofs.null_map.tree_of.Goals as goal

pub loop-left-preserved : goal.loop-left-preserved
loop-left-preserved c =
    let k = c.loop-left.left - 1 in
    let h : k < length c.args.pairs.now = omega (arith, c.loop-left.invariant.within, c.loop-left-test.true) in
    record {
      within = omega (arith, c.loop-left.invariant.within);
      same = tree_more c.args.pairs.now k c.loop-left.left c.index-pairs-left.result c.in_ok-copy_value.field-0 c.loop-left.tree.entries c.put.new.tree.entries h (omega (arith, c.loop-left-test.true)) c.requires c.index-pairs-left.is
          c.in_ok-copy_value.ensures c.loop-left.invariant.same c.in_ok-put.ensures.ok;
      proper = c.in_ok-put.ensures.proper;
    }

use Rattle.std.proofs.Common.{◌<◌, ◌+◌, ◌-◌, ◌/◌, arith}
use Rattle.clio_files.proofs.MarkFacts.{constants_to, nulls_after}
use Rattle.clio_files.proofs.marks.first_null.Goals as goal

pub loop-low-preserved-in-Const : goal.loop-low-preserved-in-Const
loop-low-preserved-in-Const c =
    let m = c.loop-low.low + (c.loop-low.high - c.loop-low.low) / 2 in
    let b : m < c.loop-low.high = omega arith in
    record {
      order = omega arith;
      within = c.loop-low.invariant.within;
      constants = constants_to c.args.target.now.symbols m c.value.result.now c.in-Const.field-0 c.requires
          (omega (arith, b, c.loop-low.invariant.within)) c.value.ensures c.in-Const.is;
      nulls = c.loop-low.invariant.nulls;
    }

pub loop-low-preserved : goal.loop-low-preserved
loop-low-preserved c =
    let m = c.loop-low.low + (c.loop-low.high - c.loop-low.low) / 2 in
    record {
      order = omega arith;
      within = omega (arith, c.loop-low.invariant.within);
      constants = c.loop-low.invariant.constants;
      nulls = nulls_after c.args.target.now.symbols m c.value.result.now c.in-Null.field-0 c.requires c.value.ensures c.in-Null.is;
    }

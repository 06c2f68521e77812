use Rattle.std.proofs.Common.{◌+◌, ◌-◌, ◌/◌, ◌<◌, arith}
use Rattle.dx_instance.proofs.NullOrderFacts.{constants_to, nulls_from}
use Rattle.dx_instance.proofs.symbols.Symbols.first_null.Goals as goal

pub loop-low-preserved-in-Const : goal.loop-low-preserved-in-Const
loop-low-preserved-in-Const c =
    let m = c.loop-low.low + (c.loop-low.high - c.loop-low.low) / 2 in
    let b : m < c.loop-low.high = omega arith in
    record {
      order = omega arith;
      within = c.loop-low.invariant.within;
      constants = constants_to c.args.self.now m c.value.result.now c.value.ensures (_, c.in-Const.is) (omega (arith, b, c.loop-low.invariant.within));
      nulls = c.loop-low.invariant.nulls;
    }

pub loop-low-preserved : goal.loop-low-preserved
loop-low-preserved c =
    let m = c.loop-low.low + (c.loop-low.high - c.loop-low.low) / 2 in
    let b : m < c.loop-low.high = omega arith in
    record {
      order = omega arith;
      within = omega (arith, b, c.loop-low.invariant.within);
      constants = c.loop-low.invariant.constants;
      nulls = nulls_from c.args.self.now m c.value.result.now c.value.ensures (_, c.in-Null.is);
    }

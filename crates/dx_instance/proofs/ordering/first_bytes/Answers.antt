use Rattle.std.proofs.Common.{arith, below_more, ◌<◌}
use Rattle.dx_instance.proofs.KeyFacts.{byte_more, byte_fits}
use Rattle.dx_instance.proofs.ordering.first_bytes.Goals as goal

pub overflow_mul-key : goal.overflow_mul-key
overflow_mul-key c = let f = byte_fits c.loop-i.i c.loop-i.key 0 c.loop-i-test.true c.loop-i.invariant.bound (omega arith) in let g = f.1 in omega (arith, g)

pub overflow_add-key : goal.overflow_add-key
overflow_add-key c =
    let byte : c.byte_or_zero.result < 256 = omega arith in
    let f = byte_fits c.loop-i.i c.loop-i.key c.byte_or_zero.result c.loop-i-test.true c.loop-i.invariant.bound byte in
    let g = f.1 in
    omega (arith, g)

pub loop-i-preserved : goal.loop-i-preserved
loop-i-preserved c =
    let byte : c.byte_or_zero.result < 256 = omega arith in
    record {
      bound = (byte_fits c.loop-i.i c.loop-i.key c.byte_or_zero.result c.loop-i-test.true c.loop-i.invariant.bound byte).0;
      rest = byte_more c.args.text.now c.loop-i.i c.loop-i.key c.byte_or_zero.result c.loop-i-test.true c.byte_or_zero.ensures c.loop-i.invariant.rest;
      small = below_more _ _ c.loop-i.invariant.small (rw (← c.byte_or_zero.ensures) byte);
    }

use Rattle.std.proofs.Common.{◌<◌, arith}
use Rattle.dx_instance.proofs.KeyFacts.{below_small, digit_fits, digit_more}
use Rattle.dx_instance.proofs.packing.Packing.key_of.Goals as goal

pub overflow_mul-key : goal.overflow_mul-key
overflow_mul-key c =
    let f = digit_fits c.args.self.base c.args.self.digits c.loop-i.i c.loop-i.key 0 c.requires.room c.loop-i-test.true c.loop-i.invariant.bound c.requires.room.some in
    let g = f.1 in
    omega (arith, g)

pub overflow_add-key : goal.overflow_add-key
overflow_add-key c =
    let small = below_small c.args.self.base c.args.self.digits c.args.row.now c.requires.room.some c.requires.below c.loop-i.i c.loop-i-test.true in
    let digit : c.number_or_zero.result < c.args.self.base = rw c.number_or_zero.ensures small in
    let f = digit_fits c.args.self.base c.args.self.digits c.loop-i.i c.loop-i.key c.number_or_zero.result c.requires.room c.loop-i-test.true c.loop-i.invariant.bound digit in
    let g = f.1 in
    omega (arith, g)

pub loop-i-preserved : goal.loop-i-preserved
loop-i-preserved c =
    let small = below_small c.args.self.base c.args.self.digits c.args.row.now c.requires.room.some c.requires.below c.loop-i.i c.loop-i-test.true in
    let digit : c.number_or_zero.result < c.args.self.base = rw c.number_or_zero.ensures small in
    record {
      bound = (digit_fits c.args.self.base c.args.self.digits c.loop-i.i c.loop-i.key c.number_or_zero.result c.requires.room c.loop-i-test.true c.loop-i.invariant.bound digit).0;
      rest = digit_more c.args.self.base c.args.self.digits c.loop-i.i c.loop-i.key c.number_or_zero.result c.args.row.now c.loop-i-test.true c.number_or_zero.ensures c.loop-i.invariant.rest;
    }

pub returns-clause-small : goal.returns-clause-small
returns-clause-small c = below_small c.args.self.base c.args.self.digits c.args.row.now c.requires.room.some c.requires.below

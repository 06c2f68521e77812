use Rattle.std.proofs.Common.{◌≡◌, arith, length}
use Rattle.dx_instance.specs.Keys.{IsSmallValue, value_key}
use Rattle.dx_instance.specs.Numbers.{value_of}
use Rattle.dx_instance.proofs.KeyFacts.{keyed_more}
use Rattle.dx_instance.proofs.ShortFacts.{lengths_more}
use Rattle.dx_instance.proofs.ordering.keyed_numbers.Goals as goal

pub loop-number-preserved : goal.loop-number-preserved
loop-number-preserved c =
    let e = c.value-value.ensures in
    let before = c.loop-number.invariant in
    record {
      keyed = keyed_more (value_of c.args.symbols.now) value_key IsSmallValue c.loop-number.keys.items c.push.new.self.items c.loop-number.number c.key_of.result before.keyed.many (c.in_ok-push.ensures.items) (rw (← e) c.key_of.ensures.key) (rw (← e) c.key_of.ensures.small) before.keyed;
      lengths = lengths_more c.args.symbols.now c.loop-number.lengths.items c.push-in-loop-number.new.self.items c.loop-number.number c.short_length.result c.in_ok-push-2.ensures.items (rw (← e) c.short_length.ensures) before.lengths;
    }

pub returns-clause-keyed : goal.returns-clause-keyed
returns-clause-keyed c =
    let all : c.loop-number.number ≡ length c.args.symbols.now = omega (arith, c.len-count.ensures.len, c.loop-number-test.false, c.loop-number.auto.number-end) in
    rw all at c.loop-number.invariant.keyed

pub returns-clause-lengths : goal.returns-clause-lengths
returns-clause-lengths c =
    let all : c.loop-number.number ≡ length c.args.symbols.now = omega (arith, c.len-count.ensures.len, c.loop-number-test.false, c.loop-number.auto.number-end) in
    rw all at c.loop-number.invariant.lengths

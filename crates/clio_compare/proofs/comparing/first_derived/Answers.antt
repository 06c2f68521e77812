use Rattle.std.proofs.Common.{arith}
use Rattle.clio_compare.proofs.Pairs.{all_plain, is_first, none_before, one_more_plain}
use Rattle.clio_compare.proofs.comparing.first_derived.Goals as goal

pub loop-number-init : goal.loop-number-init
loop-number-init c = none_before c.args.rules.now

pub loop-number-preserved : goal.loop-number-preserved
loop-number-preserved c =
    one_more_plain c.args.rules.now c.loop-number.number c.index-rules-number.result c.loop-number-test.true c.index-rules-number.is c.loop-number.invariant
    (omega (arith, c.if-len-gt0.false, c.len.ensures))

pub returns-then-len-gt0-clause-some : goal.returns-then-len-gt0-clause-some
returns-then-len-gt0-clause-some c =
    is_first c.args.rules.now c.loop-number.number c.index-rules-number.result c.loop-number-test.true c.index-rules-number.is c.loop-number.invariant
    (omega (arith, c.if-len-gt0.true, c.len.ensures))

pub returns-clause-none : goal.returns-clause-none
returns-clause-none c = all_plain c.args.rules.now c.loop-number.number c.loop-number-test.false c.loop-number.invariant

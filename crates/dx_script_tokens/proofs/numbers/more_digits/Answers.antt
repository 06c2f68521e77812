use Rattle.std.proofs.Common.{arith}
use Rattle.dx_script_tokens.proofs.Digits.{digits_on, digits_stop, digits_end}
use Rattle.dx_script_tokens.proofs.numbers.more_digits.Goals as goal

pub returns-in_default-with_digit-clause-value : goal.returns-in_default-with_digit-clause-value
returns-in_default-with_digit-clause-value c =
    digits_stop c.digits.value c.digits.len c.in-Some.digit.now c.in-Some.others.now c.digits.rest.now _ c.in-Some.ensures.cases.0 c.in_default-with_digit.ensures c.digits.invariant.0

pub digits-preserved : goal.digits-preserved
digits-preserved c = (
  digits_on c.digits.value c.digits.len c.in-Some-with_digit.next c.in-Some.digit.now c.in-Some.others.now c.digits.rest.now _ c.in-Some.ensures.cases.0 c.in-Some-with_digit.ensures c.digits.invariant.0,
  omega (arith, c.in-Some.ensures.cases.1, c.digits.invariant.1),
)

pub returns-clause-value : goal.returns-clause-value
returns-clause-value c = digits_end c.digits.value c.digits.len c.digits.rest.now _ c.in_default.ensures.cases c.digits.invariant.0

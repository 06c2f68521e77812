use Rattle.std.proofs.Common.{sym, ◌∙◌, arith}
use Rattle.dx_blocks.proofs.NullRowFacts.{first_is}
use Rattle.dx_blocks.proofs.null_rows.first_null.Goals as goal

pub returns-in-Null : goal.returns-in-Null
returns-in-Null c =
    first_is c.args.numbers.now c.loop-number.number c.in-Null.field-0 c.len-number-end.ensures.fit c.requires
    (omega (arith, c.len-number-end.ensures.len, c.loop-number-test.true)) (sym c.value.ensures ∙ c.in-Null.is) c.loop-number.invariant

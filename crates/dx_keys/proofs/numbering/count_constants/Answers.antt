use Rattle.std.proofs.Common.{◌<◌, length, arith}
use Rattle.dx_keys.proofs.InOrder.{constants_more, values_until}
use Rattle.dx_keys.proofs.numbering.count_constants.Goals as goal

pub returns-in-Null : goal.returns-in-Null
returns-in-Null c =
    let h : c.loop-number.number < length c.args.symbols.now = omega (arith, c.loop-number-test.true, c.len-count.ensures.len) in
    values_until c.args.symbols.now c.loop-number.number c.in-Null.field-0 c.value.result.now c.requires c.loop-number.invariant h c.value.ensures c.in-Null.is

pub loop-number-preserved : goal.loop-number-preserved
loop-number-preserved c = constants_more c.args.symbols.now c.loop-number.number _ c.value.result.now c.loop-number.invariant c.value.ensures c.in-Const.is

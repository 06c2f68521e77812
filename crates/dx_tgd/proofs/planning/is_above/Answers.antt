use Rattle.std.proofs.Common.{◌∙◌, sym, arith}
use Rattle.dx_tgd.proofs.Plans.{last_above}
use Rattle.dx_tgd.proofs.planning.is_above.Goals as goal

pub returns-in-Less : goal.returns-in-Less
returns-in-Less c =
    last_above c.args.symbols.now c.len-count.result c.args.value.now c.value.result.now c.if-not-is_ordered.ensures c.len-count.ensures.len (omega (arith, c.if-count-eq0.false))
    c.value.ensures (sym c.order.ensures ∙ c.in-Less.is)

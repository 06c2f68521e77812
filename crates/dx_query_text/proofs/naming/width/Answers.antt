use Rattle.std.proofs.Common.{◌<◌, arith, length}
use Rattle.dx_base.proofs.Members.{item_in}
use Rattle.dx_query_text.proofs.naming.width.Goals as goal

pub overflow_cast-result : goal.overflow_cast-result
overflow_cast-result c =
    let some : 0 < length c.args.parts.now = omega (arith, c.in-len1-up.len_at_least) in
    let few = (c.requires _ (item_in c.args.parts.now 0 c.first-item.result some c.first-item.is)).answer in
    omega (arith, few, c.len.ensures)

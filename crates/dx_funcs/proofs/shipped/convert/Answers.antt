use Rattle.std.proofs.Common.{arith, length}
use Rattle.std.proofs.lemmas.Grind.{common_steps}
use Rattle.dx_funcs.specs.Shipped.{shipped_conversions}
use Rattle.dx_funcs.proofs.Offered.{one_of_listed}
use Rattle.dx_funcs.proofs.shipped.convert.Goals as goal

pub unreachable-requires : goal.unreachable-requires
unreachable-requires c =
    let cases = one_of_listed shipped_conversions c.args.code (length c.args.args.now) c.requires in
    grind (arith, common_steps, cases, c.items.ensures)

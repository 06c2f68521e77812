use Rattle.std.proofs.Common.{◌<◌, arith}
use Rattle.dx_closing.proofs.Numbers.{in_row}
use Rattle.dx_closing.proofs.variables.above_row.Goals as goal

pub overflow_add-variable : goal.overflow_add-variable
overflow_add-variable c =
    let small : c.in-Ex.variable < 4096 = c.requires c.in-Ex.variable (in_row c.args.row.now c.loop-cell.cell-index c.in-Ex.variable c.cell-item.result c.loop-cell-test.true c.cell-item.is c.in-Ex.is) in
    omega arith

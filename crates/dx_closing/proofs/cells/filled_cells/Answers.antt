use Rattle.std.proofs.Common.{arith}
use Rattle.dx_logical.proofs.Fresh.{fresh_at_most}
use Rattle.dx_closing.proofs.cells.filled_cells.Goals as goal

pub overflow_add-next : goal.overflow_add-next
overflow_add-next c = omega (arith, fresh_at_most c.args.columns.now c.args.cells.now c.loop-column.column)

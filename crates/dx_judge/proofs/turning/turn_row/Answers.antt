use Rattle.std.proofs.Common.{arith}
use Rattle.dx_base.proofs.Members.{in_at}
use Rattle.dx_judge.proofs.turning.turn_row.Goals as goal

pub bounds-row-column : goal.bounds-row-column
bounds-row-column c = c.requires _ (in_at c.args.order.now c.loop-column.column-index 0 (omega arith))

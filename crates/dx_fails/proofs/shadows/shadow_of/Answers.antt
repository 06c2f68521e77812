use Rattle.std.proofs.Common.{arith}
use Rattle.dx_base.proofs.Members.{in_at}
use Rattle.dx_fails.proofs.shadows.shadow_of.Goals as goal

pub cell-requires-clause-column : goal.cell-requires-clause-column
cell-requires-clause-column c = c.requires.columns _ (in_at c.args.columns.now c.loop-column.column-index 0 (omega arith))

use Rattle.dx_base.proofs.Members.{in_at}
use Rattle.dx_eval.proofs.keys.gather.Goals as goal

pub bounds-row-column : goal.bounds-row-column
bounds-row-column c = c.requires _ (in_at c.args.columns.now c.loop-column.column-index 0 c.loop-column-test.true)

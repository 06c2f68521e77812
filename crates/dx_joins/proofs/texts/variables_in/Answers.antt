use Rattle.dx_joins.proofs.Translating.{variables_more_in, no_variable_in}
use Rattle.dx_joins.proofs.texts.variables_in.Goals as goal
use Rattle.dx_joins.proofs.texts.variables_in.Goals.{in-Var+in_ok-push, in_default}

pub loop-cell-preserved : goal.loop-cell-preserved
loop-cell-preserved c = elim c.match-cell.branch [
  | in-Var+in_ok-push w ↦ rw (w.variables-is, w.in_ok-push.ensures.items) (variables_more_in c.args.cells.now c.loop-cell.variables.items c.loop-cell.cell-index c.cell-item.result w.in-Var.x c.loop-cell-test.true c.cell-item.is w.in-Var.is c.loop-cell.invariant)
  | in_default w ↦ rw w.variables-is (no_variable_in c.args.cells.now c.loop-cell.variables.items c.loop-cell.cell-index c.cell-item.result c.loop-cell-test.true c.cell-item.is w.in_default.not-Var c.loop-cell.invariant)
]

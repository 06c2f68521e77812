use Rattle.std.proofs.Common.{◌∙◌, ◌++◌, List, ap}
use Rattle.std.proofs.lemmas.List.{take_all}
use Rattle.dx_model.specs.declared.rules.Cell.{Cell}
use Rattle.dx_tgd.specs.Variables.{variables_in}
use Rattle.dx_tgd.proofs.Numbers.{cell_variables, no_variable}
use Rattle.dx_tgd.proofs.variables.push_variables.Goals as goal
use Rattle.dx_tgd.proofs.variables.push_variables.Goals.{in-Var+in_ok-push, in_default}

pub loop-cell-preserved : goal.loop-cell-preserved
loop-cell-preserved c = elim c.match-cell.branch [
  | in-Var+in_ok-push w ↦ rw (w.variables-is, w.in_ok-push.ensures.items)
      (cell_variables c.args.variables.now.items c.args.cells.now c.loop-cell.cell-index c.cell-item.result w.in-Var.x c.loop-cell.variables.items c.loop-cell-test.true c.cell-item.is w.in-Var.is c.loop-cell.invariant)
  | in_default w ↦ rw w.variables-is
      (no_variable c.args.variables.now.items c.args.cells.now c.loop-cell.cell-index c.cell-item.result c.loop-cell.variables.items c.loop-cell-test.true c.cell-item.is w.in_default.not-Var c.loop-cell.invariant)
]

pub returns : goal.returns
returns c = c.loop-cell.invariant ∙ ap (λ (z : List Cell). c.args.variables.now.items ++ variables_in z) (take_all c.loop-cell.cell-index c.args.cells.now c.loop-cell-test.false)

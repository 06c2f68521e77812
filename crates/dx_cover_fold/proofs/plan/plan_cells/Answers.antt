use Rattle.dx_cover_fold.specs.Codes.{IsPlanned}
use Rattle.dx_cover_fold.proofs.plan.plan_cells.Goals as goal
use Rattle.dx_base.proofs.Lists.{zip_more}

pub loop-cell-preserved : goal.loop-cell-preserved
loop-cell-preserved c =
    rw c.in_ok-push.ensures.items (zip_more (IsPlanned c.args.matches.now.symbols c.args.variables.now c.args.width) c.args.cells.now c.loop-cell.plan.items c.loop-cell.cell-index c.cell-item.result c.in_ok-plan_cell.field-0
    c.loop-cell-test.true c.cell-item.is c.loop-cell.invariant c.in_ok-plan_cell.ensures)

use Rattle.dx_eval.specs.Evaluating.{inserted_cells}
use Rattle.dx_eval.proofs.Lists.{sum_more}
use Rattle.dx_eval.proofs.finding.rule_cells.Goals as goal

pub loop-step-preserved : goal.loop-step-preserved
loop-step-preserved c =
    sum_more (inserted_cells c.args.rule) c.args.steps.now c.loop-step.step-index c.step-item.result c.loop-step.cells c.step_cells-more.result c.loop-step-test.true c.step-item.is c.step_cells-more.ensures c.loop-step.invariant

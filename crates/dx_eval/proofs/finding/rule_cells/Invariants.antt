use Rattle.std.proofs.Common.{◌≡◌, take}
use Rattle.dx_eval.specs.Evaluating.{cells_for}
use Rattle.dx_eval.proofs.finding.rule_cells.Given as goal

abbrev pub invariant-loop-step : goal.invariant-loop-step
invariant-loop-step l = l.cells ≡ cells_for (take l.step-index l.steps) l.rule

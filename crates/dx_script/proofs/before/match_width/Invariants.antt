use Rattle.dx_script.proofs.Widths.{Passed}
use Rattle.dx_script.proofs.before.match_width.Given as goal

abbrev pub invariant-loop-step : goal.invariant-loop-step
invariant-loop-step l = Passed l.count l.step-index l.rule l.steps

use Rattle.dx_cover_fold.proofs.PlanFacts.{FoundFrom}
use Rattle.dx_cover_fold.proofs.plan.plan_variable.Given as goal

abbrev pub invariant-loop-i : goal.invariant-loop-i
invariant-loop-i l = FoundFrom l.variables l.width l.variable l.i

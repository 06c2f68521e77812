use Rattle.dx_model.specs.Rules.{cells_of, variables}
use Rattle.dx_holds.proofs.Walking.{AtStep}
use Rattle.dx_holds.proofs.texts.text_for.Given as goal

abbrev pub invariant-loop-i : goal.invariant-loop-i
invariant-loop-i l = AtStep (variables (cells_of l.atoms)) l.tuple l.variable l.from l.i

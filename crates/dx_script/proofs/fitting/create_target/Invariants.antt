use Rattle.dx_schema.specs.Names.{table_names_of}
use Rattle.dx_script.proofs.FitsTest.{Created}
use Rattle.dx_script.proofs.fitting.create_target.Given as goal

abbrev pub invariant-loop-step : goal.invariant-loop-step
invariant-loop-step l = Created l.next l.step-index l.steps (table_names_of l.target)

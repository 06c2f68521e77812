use Rattle.std.proofs.Common.{take}
use Rattle.dx_schema.specs.Names.{table_names_of}
use Rattle.dx_eval.specs.Variables.{AreVariables}
use Rattle.dx_eval.proofs.variables.Variables.of_step.Given as goal

abbrev pub invariant-loop-one : goal.invariant-loop-one
invariant-loop-one l = AreVariables (table_names_of l.source) l.sources (take l.one-index l.equal) l.variables.rows.items l.variables.count

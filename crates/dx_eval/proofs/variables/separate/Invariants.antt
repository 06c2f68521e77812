use Rattle.std.proofs.Common.{take}
use Rattle.dx_schema.specs.Names.{table_names_of}
use Rattle.dx_eval.specs.Variables.{SeparateVariables}
use Rattle.dx_eval.proofs.variables.separate.Given as goal

abbrev pub invariant-loop-name : goal.invariant-loop-name
invariant-loop-name l = SeparateVariables (table_names_of l.source) (take l.name-index l.sources) l.rows.items l.count

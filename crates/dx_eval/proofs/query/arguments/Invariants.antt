use Rattle.std.proofs.Common.{◌≡◌, take}
use Rattle.std.specs.Prelude.{map}
use Rattle.dx_schema.specs.Names.{table_names_of}
use Rattle.dx_eval.specs.Variables.{variable_of}
use Rattle.dx_eval.proofs.query.arguments.Given as goal

abbrev pub invariant-loop-cell : goal.invariant-loop-cell
invariant-loop-cell l = l.args ≡ map (variable_of (table_names_of l.aliases.schema.now) l.aliases.sources.now l.aliases.rows.now) (take l.cell-index l.cells)

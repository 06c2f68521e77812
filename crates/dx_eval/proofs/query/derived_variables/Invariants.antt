use Rattle.std.proofs.Common.{◌≡◌, take}
use Rattle.dx_funcs.specs.Serving.{offered}
use Rattle.dx_schema.specs.Names.{table_names_of}
use Rattle.dx_eval.specs.Variables.{variable_of}
use Rattle.dx_eval.specs.Query.{derived_of_selects}
use Rattle.dx_eval.proofs.query.derived_variables.Given as goal

abbrev pub invariant-loop-one : goal.invariant-loop-one
invariant-loop-one g l = l.derived.items ≡ derived_of_selects (offered l.host) (variable_of (table_names_of l.aliases.schema.now) l.aliases.sources.now l.aliases.rows.now) (take l.one-index l.select)

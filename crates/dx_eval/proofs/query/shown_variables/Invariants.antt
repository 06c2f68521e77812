use Rattle.std.proofs.Common.{◌≡◌, take}
use Rattle.dx_schema.specs.Names.{table_names_of}
use Rattle.dx_eval.specs.Variables.{variable_of}
use Rattle.dx_eval.specs.Query.{next_after, shown_from}
use Rattle.dx_eval.proofs.query.shown_variables.Given as goal

abbrev pub invariant-loop-one : goal.invariant-loop-one
invariant-loop-one g l = record { shown : l.shown.items ≡ shown_from (variable_of (table_names_of l.aliases.schema.now) l.aliases.sources.now l.aliases.rows.now) l.first (take l.one-index l.select); next : l.next ≡ next_after l.first (take l.one-index l.select) }

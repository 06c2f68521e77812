use Rattle.std.proofs.Common.{◌≡◌}
use Rattle.std.specs.Prelude.{map}
use Rattle.dx_model.specs.Covers.{below}
use Rattle.dx_schema.specs.Names.{table_names_of}
use Rattle.dx_eval.specs.Query.{alias_atom}
use Rattle.dx_eval.proofs.query.premise_of.Given as goal

abbrev pub invariant-loop-alias : goal.invariant-loop-alias
invariant-loop-alias l = l.premise.items ≡ map (alias_atom (table_names_of l.aliases.schema.now) l.aliases.sources.now l.aliases.rows.now) (below l.alias)

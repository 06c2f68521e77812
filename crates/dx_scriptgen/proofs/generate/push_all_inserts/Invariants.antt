use Rattle.std.proofs.Common.{◌≡◌, ◌++◌, false}
use Rattle.std.specs.Prelude.{flat_map, slice_index_or}
use Rattle.dx_model.specs.Covers.{below, rule_at}
use Rattle.dx_schema.specs.Names.{table_names_of}
use Rattle.dx_script.specs.Generated.{inserts_of}
use Rattle.dx_scriptgen.proofs.generate.push_all_inserts.Given as goal

abbrev pub invariant-loop-number : goal.invariant-loop-number
invariant-loop-number l = l.steps ≡ l.initial.steps ++ flat_map (λ r. inserts_of (table_names_of l.target) (slice_index_or l.kept r false) r (rule_at l.rules r)) (below l.number)

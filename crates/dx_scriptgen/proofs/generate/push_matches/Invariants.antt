use Rattle.std.proofs.Common.{◌≡◌, ◌++◌}
use Rattle.std.specs.Prelude.{map}
use Rattle.dx_model.specs.Covers.{below, rule_at}
use Rattle.dx_schema.specs.Names.{table_names_of}
use Rattle.dx_funcs.specs.Serving.{offered}
use Rattle.dx_script.specs.Generated.{match_step}
use Rattle.dx_scriptgen.proofs.generate.push_matches.Given as goal

abbrev pub invariant-loop-number : goal.invariant-loop-number
invariant-loop-number g l = l.steps ≡ l.initial.steps ++ map (λ r. match_step (table_names_of l.source) (offered l.host) r (rule_at l.rules r)) (below l.number)

use Rattle.std.proofs.Common.{◌≡◌, suc, ◌+◌, ◌++◌, take, flat_map}
use Rattle.std.specs.Prelude.{codes, string_bytes}
use Rattle.dx_funcs.specs.Serving.{offered}
use Rattle.dx_funcs.specs.Names.{conversion_name}
use Rattle.dx_rule_text.specs.Printed.{derived_texts}
use Rattle.dx_rule_text.proofs.derived.push_where.Given as goal

abbrev pub invariant-loop-other : goal.invariant-loop-other
invariant-loop-other g l =
    (l.number ≡ l.first + l.other-index)
    × (string_bytes l.out ≡ string_bytes l.initial.out ++ flat_map (λ other. codes ", " ++ other) (derived_texts (conversion_name (offered l.host)) (suc l.first) (take l.other-index l.others)))

use Rattle.std.proofs.Common.{◌≡◌, take}
use Rattle.std.specs.Prelude.{string_bytes}
use Rattle.dx_funcs.specs.Serving.{offered}
use Rattle.dx_rule_text.specs.Printed.{rules_text}
use Rattle.dx_rule_text.proofs.rule.print_rules.Given as goal

abbrev pub invariant-loop-rule : goal.invariant-loop-rule
invariant-loop-rule g l = string_bytes l.out ≡ rules_text l.source l.target (offered l.host) (take l.rule-index l.rules)

use Rattle.std.proofs.Common.{◌≡◌, map, take, drop}
use Rattle.dx_base.specs.Firsts.{first_of}
use Rattle.dx_funcs.specs.Serving.{offered}
use Rattle.dx_tgd_text.specs.Reading.{rule_fault, rule_of_text}
use Rattle.dx_tgd_text.proofs.rules.read_rules.Given as goal

-- the rules so far are read, and the first fault is that of the rest
abbrev pub invariant-loop-rule : goal.invariant-loop-rule
invariant-loop-rule g l =
    (l.read.items ≡ map (rule_of_text l.source l.target (offered l.host)) (take l.rule-index l.rules))
    × (first_of (map (rule_fault l.source l.target (offered l.host)) l.rules) ≡ first_of (map (rule_fault l.source l.target (offered l.host)) (drop l.rule-index l.rules)))

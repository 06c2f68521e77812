use Rattle.std.proofs.Common.{◌≡◌, take}
use Rattle.std.specs.List.{filter}
use Rattle.dx_implies.specs.Near.{is_joined}
use Rattle.dx_implies.proofs.nearby.joined_rules.Given as goal

abbrev pub invariant-loop-rule : goal.invariant-loop-rule
invariant-loop-rule l = l.joined.items ≡ filter (is_joined l.source l.asked l.fn.all) (take l.rule-index l.rules)

use Rattle.std.proofs.Common.{◌<◌, take}
use Rattle.dx_base.specs.Members.{Each}
use Rattle.dx_joins.specs.Joining.{variables_of_patterns}
use Rattle.dx_joins.proofs.known.above_all.Given as goal

abbrev pub invariant-loop-pattern : goal.invariant-loop-pattern
invariant-loop-pattern l = Each (variables_of_patterns (take l.pattern-index l.patterns)) (λ x. x < l.all)

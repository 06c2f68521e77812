use Rattle.std.proofs.Common.{take}
use Rattle.clio_compare.specs.Comparing.{NoneDerived}
use Rattle.clio_compare.proofs.comparing.first_derived.Given as goal

abbrev pub invariant-loop-number : goal.invariant-loop-number
invariant-loop-number l = NoneDerived (take l.number l.rules)

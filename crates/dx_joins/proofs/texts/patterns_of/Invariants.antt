use Rattle.std.proofs.Common.{take}
use Rattle.dx_joins.specs.Shown.{ArePatterns}
use Rattle.dx_joins.proofs.texts.patterns_of.Given as goal

abbrev pub invariant-loop-atom : goal.invariant-loop-atom
invariant-loop-atom l = ArePatterns (take l.atom-index l.premise) l.patterns.items

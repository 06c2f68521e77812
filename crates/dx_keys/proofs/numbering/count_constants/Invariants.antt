use Rattle.dx_keys.proofs.InOrder.{AreConstants}
use Rattle.dx_keys.proofs.numbering.count_constants.Given as goal

abbrev pub invariant-loop-number : goal.invariant-loop-number
invariant-loop-number l = AreConstants l.symbols l.number

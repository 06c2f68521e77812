use Rattle.std.proofs.Common.{take}
use Rattle.dx_implies.proofs.Bounds.{Leaves}
use Rattle.dx_implies.proofs.bounding.make_few.Given as goal

abbrev pub invariant-loop-rule : goal.invariant-loop-rule
invariant-loop-rule l = Leaves l.source (take l.rule-index l.rules) l.fn.limit l.left

use Rattle.dx_base.specs.Members.{Each}
use Rattle.dx_core.specs.NeverMoves.{IsApart}
use Rattle.dx_core.specs.Left.{facts_left}
use Rattle.dx_core.proofs.sparing.Reduction.rows_apart.Given as goal

abbrev pub invariant-loop-row : goal.invariant-loop-row
invariant-loop-row l = Each l.only.items (IsApart l.self.numbers (facts_left l.self.numbers l.self.taken) l.task.block.now.rows l.fn.at)

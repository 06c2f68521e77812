use Rattle.std.proofs.Common.{take}
use Rattle.dx_base.specs.Members.{Each}
use Rattle.dx_solver.specs.Questions.{HasImageRow, answered}
use Rattle.dx_solver.proofs.judging.all_stand.Given as goal

abbrev pub invariant-loop-atom : goal.invariant-loop-atom
invariant-loop-atom l =
    Each (take l.atom-index l.atoms) (HasImageRow l.question.numbers.now.tables l.question.taken.now (answered l.xs))

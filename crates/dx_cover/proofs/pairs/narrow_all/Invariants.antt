use Rattle.dx_base.specs.Members.{Each}
use Rattle.dx_cover.specs.Pairs.{IsChoice}
use Rattle.dx_cover.proofs.pairs.narrow_all.Given as goal

abbrev pub invariant-loop-choice : goal.invariant-loop-choice
invariant-loop-choice l = Each l.next.items (IsChoice l.part)

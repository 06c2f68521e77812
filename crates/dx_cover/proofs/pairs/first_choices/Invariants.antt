use Rattle.dx_base.specs.Members.{Each}
use Rattle.dx_cover.specs.Pairs.{IsChoice}
use Rattle.dx_cover.proofs.pairs.first_choices.Given as goal

abbrev pub invariant-loop-atom : goal.invariant-loop-atom
invariant-loop-atom l = Each l.all.items (IsChoice l.part)

use Rattle.dx_base.specs.Members.{Each}
use Rattle.dx_cover.specs.Pairs.{IsChoice}
use Rattle.dx_cover.proofs.pairs.have_choices.Given as goal

abbrev pub invariant-loop-round : goal.invariant-loop-round
invariant-loop-round l = Each l.all.items (IsChoice l.part)

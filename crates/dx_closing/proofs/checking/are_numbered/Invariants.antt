use Rattle.std.proofs.Common.{take}
use Rattle.dx_model.specs.Fitting.{ByFirstAppearance}
use Rattle.dx_model.specs.Rules.{existentials}
use Rattle.dx_closing.proofs.checking.are_numbered.Given as goal

abbrev pub invariant-loop-atom : goal.invariant-loop-atom
invariant-loop-atom l = ByFirstAppearance 0 (existentials (take l.atom-index l.atoms)) l.next

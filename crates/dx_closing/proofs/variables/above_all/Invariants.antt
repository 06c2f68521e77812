use Rattle.std.proofs.Common.{◌≡◌, drop}
use Rattle.dx_model.specs.Rules.{existentials}
use Rattle.dx_closing.specs.Closing.{above}
use Rattle.dx_closing.proofs.variables.above_all.Given as goal

abbrev pub invariant-loop-atom : goal.invariant-loop-atom
invariant-loop-atom l = above l.above (existentials (drop l.atom-index l.atoms)) ≡ above 0 (existentials l.atoms)

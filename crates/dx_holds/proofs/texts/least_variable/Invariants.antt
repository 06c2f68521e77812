use Rattle.std.proofs.Common.{take}
use Rattle.dx_model.specs.Rules.{cells_of}
use Rattle.dx_holds.specs.Least.{IsLeast}
use Rattle.dx_holds.proofs.texts.least_variable.Given as goal

abbrev pub invariant-loop-atom : goal.invariant-loop-atom
invariant-loop-atom l = IsLeast (cells_of (take l.atom-index l.atoms)) l.from l.least

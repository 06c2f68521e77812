use Rattle.std.proofs.Common.{◌≡◌, take}
use Rattle.dx_model.specs.Rules.{cells_of}
use Rattle.dx_tgd.specs.Variables.{variables_in}
use Rattle.dx_tgd.proofs.variables.exported.Given as goal

abbrev pub invariant-loop-atom : goal.invariant-loop-atom
invariant-loop-atom l = l.variables.items ≡ variables_in (cells_of (take l.atom-index l.atom-items))

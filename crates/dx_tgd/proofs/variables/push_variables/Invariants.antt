use Rattle.std.proofs.Common.{◌≡◌, ◌++◌, take}
use Rattle.dx_tgd.specs.Variables.{variables_in}
use Rattle.dx_tgd.proofs.variables.push_variables.Given as goal

abbrev pub invariant-loop-cell : goal.invariant-loop-cell
invariant-loop-cell l = l.variables.items ≡ l.initial.variables.items ++ variables_in (take l.cell-index l.cells)

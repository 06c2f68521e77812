use Rattle.std.proofs.Common.{◌≡◌, take}
use Rattle.std.specs.Prelude.{flat_map}
use Rattle.dx_model.specs.Fitting.{cell_variable}
use Rattle.dx_joins.proofs.texts.variables_in.Given as goal

abbrev pub invariant-loop-cell : goal.invariant-loop-cell
invariant-loop-cell l = l.variables.items ≡ flat_map cell_variable (take l.cell-index l.cells)

use Rattle.std.proofs.Common.{◌≡◌, drop, flat_map}
use Rattle.dx_model.specs.Rules.{existential_in}
use Rattle.dx_closing.specs.Closing.{above}
use Rattle.dx_closing.proofs.variables.above_row.Given as goal

abbrev pub invariant-loop-cell : goal.invariant-loop-cell
invariant-loop-cell l = above l.above (flat_map existential_in (drop l.cell-index l.row)) ≡ above l.next (flat_map existential_in l.row)

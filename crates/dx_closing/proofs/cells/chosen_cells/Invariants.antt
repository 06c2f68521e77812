use Rattle.std.proofs.Common.{◌≡◌, take}
use Rattle.dx_model.specs.Solutions.{cells_in}
use Rattle.dx_closing.proofs.cells.chosen_cells.Given as goal

abbrev pub invariant-loop-column : goal.invariant-loop-column
invariant-loop-column l = l.chosen.items ≡ cells_in (take l.column-index l.columns) l.row

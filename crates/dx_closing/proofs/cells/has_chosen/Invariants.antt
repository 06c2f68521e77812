use Rattle.std.proofs.Common.{◌≡◌, drop}
use Rattle.dx_closing.specs.Closing.{has_cells}
use Rattle.dx_closing.proofs.cells.has_chosen.Given as goal

abbrev pub invariant-loop-place : goal.invariant-loop-place
invariant-loop-place l = has_cells l.row (drop l.place l.columns) (drop l.place l.cells) ≡ has_cells l.row l.columns l.cells

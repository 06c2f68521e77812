use Rattle.std.proofs.Common.{◌≡◌, drop}
use Rattle.dx_logical.specs.Filled.{given_item}
use Rattle.dx_closing.proofs.cells.given_cell.Given as goal

abbrev pub invariant-loop-place : goal.invariant-loop-place
invariant-loop-place l = given_item (drop l.place l.columns) (drop l.place l.cells) l.column ≡ given_item l.columns l.cells l.column

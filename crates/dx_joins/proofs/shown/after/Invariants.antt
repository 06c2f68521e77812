use Rattle.std.proofs.Common.{◌≡◌, ◌≤◌, ◌^◌, drop}
use Rattle.std.specs.Prelude.{max}
use Rattle.dx_model.specs.Rules.{after_cells}
use Rattle.dx_joins.proofs.shown.after.Given as goal

abbrev pub invariant-loop-cell : goal.invariant-loop-cell
invariant-loop-cell l = (max l.next (after_cells (drop l.cell-index l.cells)) ≡ max l.fn.least (after_cells l.cells)) × (l.next ≤ 2 ^ 32)

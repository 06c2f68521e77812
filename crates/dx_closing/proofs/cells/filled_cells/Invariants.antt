use Rattle.std.proofs.Common.{◌≡◌, ◌+◌}
use Rattle.dx_model.specs.declared.rules.Cell.TheVariants.{Ex}
use Rattle.dx_logical.specs.Filled.{row_with_fresh, fresh_below}
use Rattle.dx_closing.proofs.cells.filled_cells.Given as goal

abbrev pub invariant-loop-column : goal.invariant-loop-column
invariant-loop-column l =
    (l.row.items ≡ row_with_fresh Ex l.initial.next l.columns l.cells l.column)
    × (l.next ≡ l.initial.next + fresh_below l.columns l.cells l.column)

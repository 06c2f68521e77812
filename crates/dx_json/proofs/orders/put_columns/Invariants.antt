use Rattle.std.proofs.Common.{◌≡◌, ◌+◌, drop}
use Rattle.dx_json.specs.Orders.{slots_of, with_cells}
use Rattle.dx_json.proofs.orders.put_columns.Given as goal

abbrev pub invariant-loop-column : goal.invariant-loop-column
invariant-loop-column l = record {
  made : with_cells l.columns l.first (slots_of l.fn.order.entries) ≡ with_cells (drop l.column-index l.column-items) l.number (slots_of l.order.entries);
  counted : l.number ≡ l.first + l.column-index;
}

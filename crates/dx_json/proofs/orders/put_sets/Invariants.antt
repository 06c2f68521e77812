use Rattle.std.proofs.Common.{◌≡◌, ◌+◌, drop}
use Rattle.dx_schema.specs.Forest.{forest_of}
use Rattle.dx_schema.specs.Tables.{count}
use Rattle.dx_json.specs.Orders.{slots_of, with_inner}
use Rattle.dx_json.proofs.orders.put_sets.Given as goal

abbrev pub invariant-loop-tree : goal.invariant-loop-tree
invariant-loop-tree l = record {
  made : with_inner l.sets 0 l.first (slots_of l.fn.order.entries) ≡ with_inner (forest_of (drop l.tree-index l.tree-items)) l.place l.table (slots_of l.order.entries);
  placed : l.place ≡ l.tree-index;
  room : l.first + count l.sets ≡ l.table + count (forest_of (drop l.tree-index l.tree-items));
}

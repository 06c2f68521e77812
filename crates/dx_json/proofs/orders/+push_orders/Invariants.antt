use Rattle.std.proofs.Common.{◌≡◌, ◌+◌, ◌++◌, drop}
use Rattle.dx_schema.specs.Forest.{forest_of, forest_size}
use Rattle.dx_schema.specs.Tables.{count}
use Rattle.dx_json.specs.Orders.{all_slots, orders_of}
use Rattle.dx_json.specs.Standing.{Stand}
use Rattle.dx_json.proofs.orders.+push_orders.Given as goal

abbrev pub invariant-loop-tree : goal.invariant-loop-tree
invariant-loop-tree l = record {
  pushed : all_slots l.orders.items ++ orders_of (forest_of (drop l.tree-index l.tree-items)) l.table ≡ all_slots l.fn.orders.items ++ orders_of l.sets l.first;
  room : l.first + count l.sets ≡ l.table + count (forest_of (drop l.tree-index l.tree-items));
  stand : Stand l.instance l.table (forest_of (drop l.tree-index l.tree-items));
}

abbrev pub decreases-push_orders : goal.decreases-push_orders
decreases-push_orders l = forest_size l.sets.now

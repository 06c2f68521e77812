use Rattle.std.proofs.Common.{◌≡◌, ◌<◌, ℕ, length}
use Rattle.dx_instance.specs.Shown.{numbers_of_table}
use Rattle.dx_judge.specs.Turned.{order_at}
use Rattle.dx_judge.specs.Turning.{IsColumnOrder}
use Rattle.dx_judge.proofs.turning.orders_of.Given as goal

abbrev pub invariant-loop-table : goal.invariant-loop-table
invariant-loop-table l = record {
  many : length l.orders.items ≡ l.table;
  each : (t : ℕ) → t < l.table → IsColumnOrder (numbers_of_table l.numbers.tables t).width (order_at l.orders.items t);
}

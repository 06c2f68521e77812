use Rattle.std.proofs.Common.{◌≡◌, ◌<◌, ℕ, length}
use Rattle.dx_instance.specs.Shown.{numbers_of_table}
use Rattle.dx_judge.specs.Turned.{order_at}
use Rattle.dx_judge.specs.Turning.{IsTableTurned}
use Rattle.dx_judge.proofs.turning.turn_tables.Given as goal

abbrev pub invariant-loop-table : goal.invariant-loop-table
invariant-loop-table l = record {
  many : length l.tables.items ≡ l.table;
  each : (t : ℕ) → t < l.table → IsTableTurned (order_at l.orders t) (numbers_of_table l.numbers.tables t) (numbers_of_table l.tables.items t);
}

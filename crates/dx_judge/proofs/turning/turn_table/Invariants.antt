use Rattle.std.proofs.Common.{◌≡◌, take, length, map}
use Rattle.dx_instance.specs.Shown.{numbers_of_table}
use Rattle.dx_judge.specs.Turning.{row_turned}
use Rattle.dx_judge.proofs.turning.turn_table.Given as goal

abbrev pub invariant-loop-place : goal.invariant-loop-place
invariant-loop-place l = record {
  width : l.rows.width ≡ length l.order;
  rows : l.rows.rows ≡ map (row_turned l.order) (take l.place (numbers_of_table l.numbers.tables l.table).rows);
}

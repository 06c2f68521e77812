use Rattle.std.proofs.Common.{◌≡◌}
use Rattle.dx_instance.specs.Shown.{numbers_of_table}
use Rattle.dx_keys.proofs.InOrder.{first_rows}
use Rattle.dx_keys.proofs.numbering.rows_copied.Given as goal

abbrev pub invariant-loop-place : goal.invariant-loop-place
invariant-loop-place l = l.rows ≡ first_rows (numbers_of_table l.numbers.tables l.table) l.place

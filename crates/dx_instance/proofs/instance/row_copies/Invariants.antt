use Rattle.std.proofs.Common.{◌≡◌, take}
use Rattle.dx_instance.proofs.instance.row_copies.Given as goal

abbrev pub invariant-loop-table : goal.invariant-loop-table
invariant-loop-table l = l.all.items ≡ take l.table-index l.tables

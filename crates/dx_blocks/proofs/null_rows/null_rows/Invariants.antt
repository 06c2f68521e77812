use Rattle.dx_blocks.specs.NullRows.{HasNullRows}
use Rattle.dx_blocks.proofs.null_rows.null_rows.Given as goal

abbrev pub invariant-loop-table : goal.invariant-loop-table
invariant-loop-table l = HasNullRows l.numbers l.first l.table 0 l.rows.items

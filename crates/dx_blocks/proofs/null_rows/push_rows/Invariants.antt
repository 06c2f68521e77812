use Rattle.dx_blocks.specs.NullRows.{HasNullRows}
use Rattle.dx_blocks.proofs.null_rows.push_rows.Given as goal

abbrev pub invariant-loop-place : goal.invariant-loop-place
invariant-loop-place l = HasNullRows l.numbers l.first l.table l.place l.rows.items

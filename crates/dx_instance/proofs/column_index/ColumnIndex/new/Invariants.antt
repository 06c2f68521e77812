use Rattle.dx_instance.proofs.IndexFacts.{Listed}
use Rattle.dx_instance.proofs.column_index.ColumnIndex.new.Given as goal

abbrev pub invariant-loop-place : goal.invariant-loop-place
invariant-loop-place l = Listed l.rows.rows l.column l.entries.items l.place

use Rattle.clio_files.proofs.MarkFacts.{Collected}
use Rattle.clio_files.proofs.marks.marked_nulls.Given as goal

abbrev pub invariant-loop-place : goal.invariant-loop-place
invariant-loop-place l = Collected l.target.symbols l.first l.marks l.place l.nulls.items

use Rattle.dx_fails.proofs.Breaking.{DetermineTo}
use Rattle.dx_fails.proofs.broken.apart_in.Given as goal

abbrev pub invariant-loop-place : goal.invariant-loop-place
invariant-loop-place l = DetermineTo l.instance l.table l.columns.left.now l.columns.right.now l.place

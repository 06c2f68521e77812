use Rattle.dx_fails.proofs.Shadowing.{AreSeen}
use Rattle.dx_fails.proofs.shadows.shadows.Given as goal

abbrev pub invariant-loop-place : goal.invariant-loop-place
invariant-loop-place l = AreSeen l.instance l.table l.columns l.place l.all

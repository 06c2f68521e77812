use Rattle.std.proofs.Common.{◌<◌, length}
use Rattle.dx_joins.proofs.order.cheapest.Given as goal

abbrev pub invariant-loop-place : goal.invariant-loop-place
invariant-loop-place l = l.best < length l.patterns

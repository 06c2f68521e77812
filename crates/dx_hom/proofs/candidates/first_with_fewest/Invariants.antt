use Rattle.std.proofs.Common.{◌≤◌, ◌<◌, length}
use Rattle.dx_hom.proofs.candidates.first_with_fewest.Given as goal

abbrev pub invariant-loop-place : goal.invariant-loop-place
invariant-loop-place l = record {
  after : l.left.start ≤ l.best;
  within : l.best < length l.left.order.now;
}

use Rattle.std.proofs.Common.{◌≡◌, ◌≤◌, length}
use Rattle.dx_joins.specs.Looking.{Links}
use Rattle.dx_joins.proofs.index.linked.Given as goal

abbrev pub invariant-loop-left : goal.invariant-loop-left
invariant-loop-left l = record {
  within : l.left ≤ length l.keys;
  many : length l.heads.items ≡ l.buckets;
  links : Links l.keys l.heads.items l.nexts.items l.left;
}

abbrev pub decreases-loop-left : goal.decreases-loop-left
decreases-loop-left l = l.left

use Rattle.std.proofs.Common.{◌≡◌, ◌<◌, length}
use Rattle.std.specs.Prelude.{map, slice_index}
use Rattle.dx_base.specs.Members.{Each}
use Rattle.dx_joins.proofs.plan.Plan.build.Given as goal

abbrev pub invariant-loop-column : goal.invariant-loop-column
invariant-loop-column l = record {
  left_within : Each l.by_left.items (λ i. i < length l.left);
  right_within : Each l.by_right.items (λ i. i < length l.firsts.items);
  shared : map (slice_index l.left) l.by_left.items ≡ map (slice_index l.fn.right) l.by_right.items;
}

use Rattle.std.specs.Prelude.{IsPermutation}
use Rattle.dx_joins.proofs.order.in_order.Given as goal

abbrev pub invariant-loop-place : goal.invariant-loop-place
invariant-loop-place l = IsPermutation l.initial.patterns.items l.patterns.items

use Rattle.std.proofs.Common.{◌≡◌, [], vec_capacity}
use Rattle.dx_hom.specs.Orders.{IsOrder}
use Rattle.dx_hom.proofs.searching.Stack.begin.Given as goal

abbrev pub invariant-loop-place : goal.invariant-loop-place
invariant-loop-place l = record {
  steps : l.self.steps.items ≡ [];
  order : IsOrder l.place l.self.order.items;
  steps_capacity : vec_capacity l.self.steps ≡ vec_capacity l.fn.self.steps;
  order_capacity : vec_capacity l.self.order ≡ vec_capacity l.fn.self.order;
}

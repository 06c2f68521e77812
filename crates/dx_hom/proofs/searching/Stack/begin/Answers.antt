use Rattle.std.proofs.Common.{◌∙◌}
use Rattle.dx_hom.proofs.OrderFacts.{order_more}
use Rattle.dx_hom.proofs.searching.Stack.begin.Goals as goal

pub loop-place-preserved : goal.loop-place-preserved
loop-place-preserved c = record {
  steps = c.loop-place.invariant.steps;
  order = rw c.push_reserved.ensures.items (order_more c.loop-place.place c.loop-place.self.order.items c.loop-place.invariant.order);
  steps_capacity = c.loop-place.invariant.steps_capacity;
  order_capacity = c.push_reserved.ensures.capacity ∙ c.loop-place.invariant.order_capacity;
}

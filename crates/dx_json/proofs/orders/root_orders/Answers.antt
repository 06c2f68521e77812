use Rattle.std.proofs.Common.{◌∙◌, ap, arith}
use Rattle.std.proofs.lemmas.List.{length-map}
use Rattle.dx_json.specs.Orders.{all_slots, slots_of}
use Rattle.dx_json.proofs.Ordered.{one_more, ready_root}
use Rattle.dx_json.proofs.orders.root_orders.Goals as goal

pub returns : goal.returns
returns c =
    let first = c.in_ok-orders.orders.items in
    let one = one_more first c.push.new.self.items c.in_ok-order.order c.in_ok-push.ensures.items in
    ready_root c.args.instance.now (all_slots first) (all_slots c.push.new.self.items) _ c.args.tree.now c.tree.inside.inner (slots_of c.in_ok-order.order.entries) c.args.root _ (length-map first (λ o. slots_of o.entries) ∙ c.in_ok-orders.ensures)
    (ap (λ v. v.inner) c.tree.view_is) (omega arith) c.in_ok-order.ensures one c.in_ok-push_orders.ensures c.requires.stand

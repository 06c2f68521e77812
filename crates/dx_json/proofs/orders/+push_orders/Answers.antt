use Rattle.std.proofs.Common.{◌≡◌, suc, ◌+◌, ◌∙◌, ap, arith, refl}
use Rattle.dx_schema.specs.Tables.{count}
use Rattle.dx_schema.proofs.Preorder.{count_below, smaller}
use Rattle.dx_json.specs.Orders.{all_slots, slots_of}
use Rattle.dx_json.proofs.Nested.{stand_at, stand_inner, stand_rest}
use Rattle.dx_json.proofs.Ordered.{one_more, order_pushed, orders_pushed}
use Rattle.dx_json.proofs.Steps.{count_at}
use Rattle.dx_json.proofs.orders.+push_orders.Goals as goal

pub width-requires : goal.width-requires
width-requires t c =
    (stand_at c.args.instance.now c.loop-tree.table c.items-tree-items.result.now c.loop-tree.tree-index c.tree-item.result c.loop-tree-test.true c.tree-item.is c.loop-tree.invariant.stand).0

pub order_of-requires : goal.order_of-requires
order_of-requires t c =
    let ts = c.items-tree-items.result.now in
    let s = c.tree-item.result in
    let k = c.loop-tree.tree-index in
    let stand = stand_at c.args.instance.now c.loop-tree.table ts k s c.loop-tree-test.true c.tree-item.is c.loop-tree.invariant.stand in
    let fewer = count_below ts k s s.inner c.args.sets.now c.loop-tree-test.true c.tree-item.is refl c.items-tree-items.ensures in
    let counted = count_at ts k s s.inner c.loop-tree-test.true c.tree-item.is refl in
    record { columns = omega (arith, stand.1, c.width.ensures); few = omega (arith, fewer, c.requires.few); room = omega (arith, counted, c.loop-tree.invariant.room, c.requires.room) }

pub push_orders-requires : goal.push_orders-requires
push_orders-requires t c =
    let ts = c.items-tree-items.result.now in
    let s = c.tree-item.result in
    let k = c.loop-tree.tree-index in
    let inner : c.tree.inside.inner ≡ s.inner = ap (λ v. v.inner) c.tree.view_is in
    let fewer = count_below ts k s c.tree.inside.inner c.args.sets.now c.loop-tree-test.true c.tree-item.is inner c.items-tree-items.ensures in
    let counted = count_at ts k s c.tree.inside.inner c.loop-tree-test.true c.tree-item.is inner in (
      smaller ts k s c.tree.inside.inner c.args.sets.now t c.loop-tree-test.true c.tree-item.is inner c.items-tree-items.ensures c.decreases,
      (
        stand_inner c.args.instance.now _ c.loop-tree.table _ ts k s c.tree.inside.inner c.loop-tree-test.true c.tree-item.is c.loop-tree.invariant.stand refl inner (omega arith),
        (omega (arith, fewer, c.requires.few), omega (arith, counted, c.loop-tree.invariant.room, c.requires.room)),
      ),
    )

pub count-requires : goal.count-requires
count-requires t c =
    let fewer = count_below c.items-tree-items.result.now c.loop-tree.tree-index c.tree-item.result c.tree.inside.inner c.args.sets.now c.loop-tree-test.true c.tree-item.is (ap (λ v. v.inner) c.tree.view_is) c.items-tree-items.ensures in
    omega (arith, fewer, c.requires.few)

pub loop-tree-preserved : goal.loop-tree-preserved
loop-tree-preserved t c =
    let I = c.args.instance.now in
    let ts = c.items-tree-items.result.now in
    let s = c.tree-item.result in
    let k = c.loop-tree.tree-index in
    let inner : c.tree.inside.inner ≡ s.inner = ap (λ v. v.inner) c.tree.view_is in
    let sets : c.count.result ≡ count s.inner = c.count.ensures ∙ ap (λ v. count v.inner) c.tree.view_is in
    let table : c.loop-tree.table + (1 + c.count.result) ≡ suc (c.loop-tree.table + count s.inner) = omega (arith, sets) in
    let counted = count_at ts k s s.inner c.loop-tree-test.true c.tree-item.is refl in
    let more = one_more c.loop-tree.orders.items c.push.new.self.items c.in_ok-order.order c.in_ok-push.ensures.items in
    record {
      pushed = order_pushed ts k s c.tree.inside.inner c.loop-tree.table _ _ (slots_of c.in_ok-order.order.entries) (all_slots c.loop-tree.orders.items) (all_slots c.push.new.self.items) (all_slots c.push_orders.new.orders.items) _ c.loop-tree-test.true c.tree-item.is
          c.loop-tree.invariant.pushed inner c.in_ok-order.ensures more c.in_ok-push_orders.ensures (omega arith) table;
      room = omega (arith, counted, sets, c.loop-tree.invariant.room);
      stand = stand_rest I I c.loop-tree.table _ ts k s c.loop-tree-test.true c.tree-item.is c.loop-tree.invariant.stand refl table;
    }

pub returns : goal.returns
returns t c = orders_pushed c.items-tree-items.result.now c.loop-tree.tree-index c.loop-tree.table (all_slots c.loop-tree.orders.items) _ (omega (arith, c.loop-tree-test.false)) c.loop-tree.invariant.pushed

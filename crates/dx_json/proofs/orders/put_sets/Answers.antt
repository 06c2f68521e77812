use Rattle.std.proofs.Common.{◌≡◌, suc, ◌+◌, ◌∙◌, ap, arith, refl}
use Rattle.dx_schema.specs.Tables.{count}
use Rattle.dx_schema.proofs.Preorder.{count_below}
use Rattle.dx_json.specs.Orders.{slots_of}
use Rattle.dx_json.proofs.Ordered.{set_put, sets_put}
use Rattle.dx_json.proofs.Steps.{count_at}
use Rattle.dx_json.proofs.orders.put_sets.Goals as goal

pub count-requires : goal.count-requires
count-requires c =
    let fewer = count_below c.items-tree-items.result.now c.loop-tree.tree-index c.tree-item.result c.tree.inside.inner c.args.sets.now c.loop-tree-test.true c.tree-item.is (ap (λ v. v.inner) c.tree.view_is) c.items-tree-items.ensures in
    omega (arith, fewer, c.requires.few)

pub loop-tree-preserved : goal.loop-tree-preserved
loop-tree-preserved c =
    let ts = c.items-tree-items.result.now in
    let s = c.tree-item.result in
    let k = c.loop-tree.tree-index in
    let name : c.tree.inside.name ≡ s.label.name = ap (λ v. v.label.name) c.tree.view_is in
    let sets : c.count.result ≡ count s.inner = c.count.ensures ∙ ap (λ v. count v.inner) c.tree.view_is in
    let table : c.loop-tree.table + (1 + c.count.result) ≡ suc (c.loop-tree.table + count s.inner) = omega (arith, sets) in
    let counted = count_at ts k s s.inner c.loop-tree-test.true c.tree-item.is refl in
    record {
      made = set_put ts k s c.loop-tree.place _ c.loop-tree.table _ c.tree.inside.name _ (slots_of c.loop-tree.order.entries) _ c.loop-tree-test.true c.tree-item.is c.loop-tree.invariant.made name c.in_ok-put.ensures (omega arith) table;
      placed = omega (arith, c.loop-tree.invariant.placed);
      room = omega (arith, counted, sets, c.loop-tree.invariant.room);
    }

pub returns : goal.returns
returns c = sets_put c.items-tree-items.result.now c.loop-tree.tree-index c.loop-tree.place c.loop-tree.table _ (slots_of c.loop-tree.order.entries) (omega (arith, c.loop-tree-test.false)) c.loop-tree.invariant.made

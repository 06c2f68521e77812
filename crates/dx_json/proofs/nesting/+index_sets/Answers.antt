use Rattle.std.proofs.Common.{◌≡◌, ap, arith}
use Rattle.dx_schema.proofs.Preorder.{count_below, smaller}
use Rattle.dx_json.proofs.Nested.{stand_inner}
use Rattle.dx_json.proofs.Steps.{count_at}
use Rattle.dx_json.proofs.nesting.+index_sets.Goals as goal

pub index_sets-requires : goal.index_sets-requires
index_sets-requires t c =
    let ts = c.items-tree-items.result.now in
    let s = c.tree-item.result in
    let k = c.loop-tree.tree-index in
    let inner : c.tree.inside.inner ≡ s.inner = ap (λ v. v.inner) c.tree.view_is in
    let fewer = count_below ts k s c.tree.inside.inner c.args.sets.now c.loop-tree-test.true c.tree-item.is inner c.items-tree-items.ensures in
    let counted = count_at ts k s c.tree.inside.inner c.loop-tree-test.true c.tree-item.is inner in (
      smaller ts k s c.tree.inside.inner c.args.sets.now t c.loop-tree-test.true c.tree-item.is inner c.items-tree-items.ensures c.decreases,
      (
        stand_inner c.loop-tree.instance _ c.loop-tree.table _ ts k s c.tree.inside.inner c.loop-tree-test.true c.tree-item.is c.loop-tree.invariant.stand c.index.ensures inner (omega arith),
        (omega (arith, fewer, c.requires.few), omega (arith, counted, c.loop-tree.invariant.room, c.requires.room)),
      ),
    )

pub count-requires : goal.count-requires
count-requires t c =
    let fewer = count_below c.items-tree-items.result.now c.loop-tree.tree-index c.tree-item.result c.tree.inside.inner c.args.sets.now c.loop-tree-test.true c.tree-item.is (ap (λ v. v.inner) c.tree.view_is) c.items-tree-items.ensures in
    omega (arith, fewer, c.requires.few)

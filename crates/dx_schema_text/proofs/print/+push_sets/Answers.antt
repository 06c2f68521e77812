use Rattle.std.proofs.Common.{◌∙◌, ap, refl}
use Rattle.dx_schema.specs.Forest.{forest_of}
use Rattle.dx_schema.proofs.Preorder.{smaller}
use Rattle.dx_schema_text.proofs.Printing.{one_printed}
use Rattle.dx_schema_text.proofs.print.+push_sets.Goals as goal

pub push_sets-requires : goal.push_sets-requires
push_sets-requires t c = (smaller c.args.trees.now c.loop-tree.tree-index c.tree-item.result (forest_of c.items.result.now) (forest_of c.args.trees.now) t c.loop-tree-test.true c.tree-item.is (c.items.ensures ∙ ap (λ v. v.inner) c.tree.view_is) refl c.decreases, tt)

pub loop-tree-preserved : goal.loop-tree-preserved
loop-tree-preserved t c =
    one_printed c.args.margin.now c.in_ok-wide.wide c.args.trees.now c.loop-tree.tree-index c.tree-item.result (forest_of c.items.result.now) _ _ _ _ _ c.loop-tree-test.true c.tree-item.is (c.items.ensures ∙ ap (λ v. v.inner) c.tree.view_is) c.in_ok-wide.ensures
    c.loop-tree.invariant c.in_ok-push_front.ensures c.in_ok-push_sets.ensures c.in_ok-push_last.ensures

use Rattle.std.proofs.Common.{◌∙◌, ap, arith, refl, sym}
use Rattle.dx_schema.specs.Forest.{Tree, forest_of}
use Rattle.dx_schema.proofs.Preorder.{smaller}
use Rattle.dx_compare.proofs.Alike.{differ_at, differ_long, told_apart}
use Rattle.dx_compare.proofs.same.+same_trees.Goals as goal

pub returns-then-first-second : goal.returns-then-first-second
returns-then-first-second t c = differ_long c.args.first.now c.args.second.now (omega (arith, c.if-first-second.true))

pub returns-then-not-is_same_label : goal.returns-then-not-is_same_label
returns-then-not-is_same_label t c =
    differ_at c.args.first.now c.args.second.now c.loop-i.i c.index-first-i.result c.index-second-i.result c.loop-i-test.true c.if-first-second.false c.index-first-i.is c.index-second-i.is
    (λ e. told_apart c.is_same_label.result c.is_same_label.ensures c.if-not-is_same_label.true (ap (λ (s : Tree). s.label) e))

pub same_trees-requires : goal.same_trees-requires
same_trees-requires t c = (
  smaller c.args.first.now c.loop-i.i c.index-first-i.result (forest_of c.items.result.now) (forest_of c.args.first.now) t c.loop-i-test.true c.index-first-i.is
      (c.items.ensures ∙ ap (λ (s : Tree). s.inner) c.one.view_is) refl c.decreases,
  tt,
)

pub returns-then-not-same_trees : goal.returns-then-not-same_trees
returns-then-not-same_trees t c =
    differ_at c.args.first.now c.args.second.now c.loop-i.i c.index-first-i.result c.index-second-i.result c.loop-i-test.true c.if-first-second.false c.index-first-i.is c.index-second-i.is
    (λ e. told_apart c.same_trees.result c.same_trees.ensures c.if-not-same_trees.true
    (c.items.ensures ∙ ap (λ (s : Tree). s.inner) (c.one.view_is ∙ e ∙ sym c.other.view_is) ∙ sym c.items-in-loop-i.ensures))

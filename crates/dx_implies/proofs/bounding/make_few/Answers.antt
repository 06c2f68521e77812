use Rattle.std.proofs.Common.{◌<◌, ◌∙◌, length, sym}
use Rattle.dx_base.specs.Members.{Each}
use Rattle.dx_base.proofs.Loops.{each_item}
use Rattle.dx_model.specs.declared.rules.Atom.{Atom}
use Rattle.dx_model.specs.declared.rules.Rule.{Rule}
use Rattle.dx_model.specs.Fitting.{IsRule}
use Rattle.dx_implies.proofs.Bounds.{leaves_more, leaves_same, near_plain}
use Rattle.dx_implies.proofs.bounding.make_few.Goals as goal
use Rattle.dx_implies.proofs.bounding.make_few.Goals.{then-is_nearby+in_ok-cells+in-Some+else-cells-left, else-is_nearby}

pub is_nearby-requires : goal.is_nearby-requires
is_nearby-requires c =
    each_item (λ (d : Rule). Each d.premise (λ (a : Atom). a.table < length c.args.source.now)) c.args.rules.now c.loop-rule.rule-index c.rule-item.result c.loop-rule-test.true c.rule-item.is c.requires.tables

pub most_cells-requires-clause-rule : goal.most_cells-requires-clause-rule
most_cells-requires-clause-rule c = (
  each_item IsRule c.args.rules.now c.loop-rule.rule-index c.rule-item.result c.loop-rule-test.true c.rule-item.is c.requires.rules,
  near_plain c.args.source.now c.rule-item.result (sym c.is_nearby.ensures ∙ c.if-is_nearby.true),
)

pub most_cells-requires-clause-tables : goal.most_cells-requires-clause-tables
most_cells-requires-clause-tables c =
    each_item (λ (d : Rule). Each d.premise (λ (a : Atom). a.table < length c.args.source.now)) c.args.rules.now c.loop-rule.rule-index c.rule-item.result c.loop-rule-test.true c.rule-item.is c.requires.tables

pub loop-rule-preserved : goal.loop-rule-preserved
loop-rule-preserved c = elim c.if-is_nearby.branch [
  | then-is_nearby+in_ok-cells+in-Some+else-cells-left w ↦
      leaves_more c.args.source.now c.args.rules.now c.loop-rule.rule-index c.rule-item.result c.args.limit c.loop-rule.left c.loop-rule-test.true c.rule-item.is c.loop-rule.invariant
      w.in-Some.cells c.if-is_nearby.left (sym c.is_nearby.ensures ∙ w.if-is_nearby.true) (rw w.in-Some.is at w.in_ok-cells.ensures) w.if-cells-left.false w.left-is
  | else-is_nearby w ↦
      rw w.left-is (leaves_same c.args.source.now c.args.rules.now c.loop-rule.rule-index c.rule-item.result c.args.limit c.loop-rule.left c.loop-rule-test.true c.rule-item.is c.loop-rule.invariant
      (sym c.is_nearby.ensures ∙ w.if-is_nearby.false))
]

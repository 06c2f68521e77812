use Rattle.std.proofs.Common.{◌≡◌, ◌∙◌, ap, arith, length, false}
use Rattle.std.proofs.lemmas.List.{length-replicate, with_items_is}
use Rattle.dx_used.proofs.MarkFacts.{none_marked, rule_more, used_more}
use Rattle.dx_used.proofs.marking.marks_by_rules.Goals as goal

pub loop-rule-init : goal.loop-rule-init
loop-rule-init c =
    let e = c.in_ok-marks.ensures.items_if_clones_equal (λ y e. e) in
    record {
      width = ap length e ∙ length-replicate c.args.width false;
      only = λ d m. elim m [ ];
      used = λ r. none_marked c.args.rules.now c.args.table c.args.width c.in_ok-marks.marks.items e;
    }

pub loop-rule-preserved : goal.loop-rule-preserved
loop-rule-preserved c =
    let n : length c.mark_rule.new.marks ≡ c.loop-rule.marks.len = omega (arith, ap length c.deref_mut.ensures.value) in
    let b = with_items_is c.loop-rule.marks c.mark_rule.new.marks n in
    let v = c.deref_mut.ensures.value in
    rw b record {
      width = c.mark_rule.auto.marks ∙ (ap length v ∙ c.loop-rule.invariant.width);
      only =
          rule_more c.args.table c.args.rules.now c.loop-rule.marks.items c.mark_rule.new.marks c.loop-rule.rule-index c.rule-item.result
          c.loop-rule-test.true c.rule-item.is c.loop-rule.invariant.only (rw v at c.in_ok-mark_rule.ensures.keep) c.in_ok-mark_rule.ensures.only;
      used = λ r.
          used_more c.args.rules.now c.args.table c.loop-rule.rule-index c.rule-item.result c.loop-rule.marks.items c.mark_rule.new.marks
          c.loop-rule-test.true c.rule-item.is r (c.loop-rule.invariant.used r) (rw v at c.in_ok-mark_rule.ensures.used);
    }

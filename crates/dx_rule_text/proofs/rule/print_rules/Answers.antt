use Rattle.dx_base.proofs.Loops.{each_item}
use Rattle.dx_model.specs.declared.rules.Rule.{Rule}
use Rattle.dx_funcs.specs.Serving.{offered}
use Rattle.dx_rule_text.specs.Printed.{AtomsWithin, AllListed}
use Rattle.dx_rule_text.proofs.rule.print_rules.Goals as goal

pub push_rule-requires-clause-premise : goal.push_rule-requires-clause-premise
push_rule-requires-clause-premise g c =
    each_item (λ (r : Rule). AtomsWithin c.args.source.now r.premise) c.args.rules.now c.loop-rule.rule-index c.rule-item.result c.loop-rule-test.true c.rule-item.is c.requires.premise

pub push_rule-requires-clause-conclusion : goal.push_rule-requires-clause-conclusion
push_rule-requires-clause-conclusion g c =
    each_item (λ (r : Rule). AtomsWithin c.args.target.now r.conclusion) c.args.rules.now c.loop-rule.rule-index c.rule-item.result c.loop-rule-test.true c.rule-item.is c.requires.conclusion

pub push_rule-requires-clause-derived : goal.push_rule-requires-clause-derived
push_rule-requires-clause-derived g c =
    each_item (λ (r : Rule). AllListed (offered c.args.host.now) r.derived) c.args.rules.now c.loop-rule.rule-index c.rule-item.result c.loop-rule-test.true c.rule-item.is c.requires.derived

use Rattle.dx_base.proofs.Loops.{each_item}
use Rattle.dx_funcs.specs.Serving.{offered}
use Rattle.dx_line_text.proofs.Faults.{fault_none}
use Rattle.dx_line_text.proofs.Fits.{all_read}
use Rattle.dx_tgd_text.specs.Reading.{RuleHasFewCells, rule_fault, rule_of_text}
use Rattle.dx_tgd_text.proofs.Fits.{all_fit, all_offered}
use Rattle.dx_tgd_text.proofs.RuleSteps.{loop_more}
use Rattle.dx_tgd_text.proofs.rules.read_rules.Goals as goal

pub read_rule-requires : goal.read_rule-requires
read_rule-requires g c = each_item RuleHasFewCells c.args.rules.now c.loop-rule.rule-index c.rule-item.result c.loop-rule-test.true c.rule-item.is c.requires.narrow

pub loop-rule-preserved : goal.loop-rule-preserved
loop-rule-preserved g c =
    let f = rule_of_text c.args.source.now c.args.target.now (offered c.args.host.now) in
    let fault = rule_fault c.args.source.now c.args.target.now (offered c.args.host.now) in
    loop_more f fault c.args.rules.now c.loop-rule.rule-index c.rule-item.result c.loop-rule.read.items c.push.new.self.items _ c.loop-rule-test.true c.rule-item.is c.loop-rule.invariant c.in_ok-read_rule.ensures c.in_ok-push.ensures.items

pub returns-clause-fit : goal.returns-clause-fit
returns-clause-fit g c =
    let f = rule_of_text c.args.source.now c.args.target.now (offered c.args.host.now) in
    let fault = rule_fault c.args.source.now c.args.target.now (offered c.args.host.now) in
    all_fit c.args.source.now c.args.target.now (offered c.args.host.now) c.args.rules.now c.loop-rule.read.items c.requires.narrow
    (all_read f c.args.rules.now c.loop-rule.rule-index c.loop-rule.read.items c.loop-rule-test.false c.loop-rule.invariant.0)
    (fault_none fault c.args.rules.now c.loop-rule.rule-index c.loop-rule-test.false c.loop-rule.invariant.1)

pub returns-clause-listed : goal.returns-clause-listed
returns-clause-listed g c =
    let f = rule_of_text c.args.source.now c.args.target.now (offered c.args.host.now) in
    let fault = rule_fault c.args.source.now c.args.target.now (offered c.args.host.now) in
    all_offered c.args.source.now c.args.target.now (offered c.args.host.now) c.args.rules.now c.loop-rule.read.items
    (all_read f c.args.rules.now c.loop-rule.rule-index c.loop-rule.read.items c.loop-rule-test.false c.loop-rule.invariant.0)
    (fault_none fault c.args.rules.now c.loop-rule.rule-index c.loop-rule-test.false c.loop-rule.invariant.1)

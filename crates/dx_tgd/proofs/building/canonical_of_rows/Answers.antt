use Rattle.std.proofs.Common.{◌<◌, ◌-◌, ◌^◌, List, arith, subst, sym}
use Rattle.dx_base.proofs.Members.{item_in}
use Rattle.dx_base.proofs.Lists.{zip_long}
use Rattle.dx_model.specs.declared.facts.Fact.{Fact}
use Rattle.dx_model.specs.declared.values.Value.{Value}
use Rattle.dx_model.specs.Rules.{canonical}
use Rattle.dx_instance.proofs.NumberFacts.{stays}
use Rattle.dx_instance.proofs.ShownFacts.{extends_both}
use Rattle.dx_tgd.specs.Counting.{canonical_cells}
use Rattle.dx_tgd.specs.Gained.{GainsFacts}
use Rattle.dx_tgd.specs.Planned.{built}
use Rattle.dx_tgd.specs.Texts.{FitRule, FitRules, tuples_in}
use Rattle.dx_tgd.proofs.Gaining.{gains_nothing}
use Rattle.dx_tgd.proofs.Steps.{RulesAt, all_rules, few_tables, fit_at, fits_first, more_of_rule, room_first, room_of_rule, sorted_all, sorted_widths, texts_of_rule}
use Rattle.dx_tgd.proofs.building.canonical_of_rows.Goals as goal

pub loop-i-init : goal.loop-i-init
loop-i-init c = record { grows = stays c.in_ok-target.target.symbols; gains = gains_nothing (built c.in_ok-target.target) }

pub bounds-rows-i : goal.bounds-rows-i
bounds-rows-i c = omega (arith, c.loop-i-test.true, zip_long (FitRule c.args.symbols) c.args.rules.now c.args.rows.now c.requires.tuples)

pub add_rule-requires-clause-tuples : goal.add_rule-requires-clause-tuples
add_rule-requires-clause-tuples c =
    let S = c.in_ok-target.target.symbols in
    let at : RulesAt S c.loop-i.target.symbols c.args.rules.now c.args.rows.now c.loop-i.i c.index-rules-i.result c.index-rows-i.result = record {
      fit = subst (λ (z : List Value). FitRules z c.args.rules.now c.args.rows.now) (sym c.in_ok-target.ensures.symbols) c.requires.tuples;
      grows = c.loop-i.invariant.grows;
      within = c.loop-i-test.true;
      rule = c.index-rules-i.is;
      table = c.index-rows-i.is;
    } in
    record {
      width = (fit_at S c.loop-i.target.symbols c.args.rules.now c.args.rows.now c.loop-i.i c.index-rules-i.result c.index-rows-i.result at).width;
      texts = texts_of_rule S c.loop-i.target.symbols c.args.rules.now c.args.rows.now c.loop-i.i c.index-rules-i.result c.index-rows-i.result at;
    }

pub add_rule-requires-clause-fits : goal.add_rule-requires-clause-fits
add_rule-requires-clause-fits c =
    rw c.loop-i.invariant.gains.widths_stay (fits_first c.args.columns.now (built c.in_ok-target.target) c.args.rules.now c.in_ok-target.ensures.empty c.requires.fits
    c.index-rules-i.result (item_in c.args.rules.now c.loop-i.i c.index-rules-i.result c.loop-i-test.true c.index-rules-i.is))

pub add_rule-requires-clause-room : goal.add_rule-requires-clause-room
add_rule-requires-clause-room c =
    let S = c.in_ok-target.target.symbols in
    let at : RulesAt S c.loop-i.target.symbols c.args.rules.now c.args.rows.now c.loop-i.i c.index-rules-i.result c.index-rows-i.result = record {
      fit = subst (λ (z : List Value). FitRules z c.args.rules.now c.args.rows.now) (sym c.in_ok-target.ensures.symbols) c.requires.tuples;
      grows = c.loop-i.invariant.grows;
      within = c.loop-i-test.true;
      rule = c.index-rules-i.is;
      table = c.index-rows-i.is;
    } in
    let room = room_first c.args.columns.now (built c.in_ok-target.target) c.args.rules.now (tuples_in S c.args.rows.now) c.in_ok-target.ensures.empty c.requires.some c.requires.fits
    (subst (λ (z : List Value). canonical_cells c.args.rules.now (tuples_in z c.args.rows.now) < 2 ^ 32 - 1) (sym c.in_ok-target.ensures.symbols) c.requires.limit) in
    room_of_rule S c.loop-i.target.symbols c.args.rules.now c.args.rows.now c.loop-i.i c.index-rules-i.result c.index-rows-i.result at (built c.in_ok-target.target) (built c.loop-i.target) c.loop-i.invariant.gains room

pub loop-i-preserved : goal.loop-i-preserved
loop-i-preserved c =
    let S = c.in_ok-target.target.symbols in
    let at : RulesAt S c.loop-i.target.symbols c.args.rules.now c.args.rows.now c.loop-i.i c.index-rules-i.result c.index-rows-i.result = record {
      fit = subst (λ (z : List Value). FitRules z c.args.rules.now c.args.rows.now) (sym c.in_ok-target.ensures.symbols) c.requires.tuples;
      grows = c.loop-i.invariant.grows;
      within = c.loop-i-test.true;
      rule = c.index-rules-i.is;
      table = c.index-rows-i.is;
    } in
    record {
      grows = extends_both S c.loop-i.target.symbols c.add_rule.new.target.symbols c.loop-i.invariant.grows c.in_ok-add_rule.ensures.grows;
      gains = more_of_rule S c.loop-i.target.symbols c.args.rules.now c.args.rows.now c.loop-i.i c.index-rules-i.result c.index-rows-i.result at (built c.in_ok-target.target) (built c.loop-i.target) (built c.add_rule.new.target) c.loop-i.invariant.gains c.in_ok-add_rule.ensures.gained;
    }

pub finish-requires : goal.finish-requires
finish-requires c =
    let S = c.in_ok-target.target.symbols in
    let fit = subst (λ (z : List Value). FitRules z c.args.rules.now c.args.rows.now) (sym c.in_ok-target.ensures.symbols) c.requires.tuples in
    let all = subst (λ (fs : List Fact). GainsFacts (built c.in_ok-target.target) (built c.loop-i.target) fs) (all_rules S c.args.rules.now c.args.rows.now c.loop-i.i fit c.loop-i-test.false) c.loop-i.invariant.gains in
    few_tables c.args.columns.now (built c.in_ok-target.target) (built c.loop-i.target) _ c.in_ok-target.ensures.empty all c.requires.few

pub returns-clause-widths : goal.returns-clause-widths
returns-clause-widths c =
    let S = c.in_ok-target.target.symbols in
    let fit = subst (λ (z : List Value). FitRules z c.args.rules.now c.args.rows.now) (sym c.in_ok-target.ensures.symbols) c.requires.tuples in
    let all = subst (λ (fs : List Fact). GainsFacts (built c.in_ok-target.target) (built c.loop-i.target) fs) (all_rules S c.args.rules.now c.args.rows.now c.loop-i.i fit c.loop-i-test.false) c.loop-i.invariant.gains in
    sorted_widths c.finish.result c.args.columns.now (built c.in_ok-target.target) (built c.loop-i.target) _ c.in_ok-target.ensures.empty all c.finish.ensures

pub returns-clause-facts : goal.returns-clause-facts
returns-clause-facts c =
    let S = c.in_ok-target.target.symbols in
    let fit = subst (λ (z : List Value). FitRules z c.args.rules.now c.args.rows.now) (sym c.in_ok-target.ensures.symbols) c.requires.tuples in
    let all = subst (λ (fs : List Fact). GainsFacts (built c.in_ok-target.target) (built c.loop-i.target) fs) (all_rules S c.args.rules.now c.args.rows.now c.loop-i.i fit c.loop-i-test.false) c.loop-i.invariant.gains in
    sorted_all c.finish.result c.args.columns.now (built c.in_ok-target.target) (built c.loop-i.target) (canonical 0 c.args.rules.now (tuples_in c.args.symbols c.args.rows.now)) c.in_ok-target.ensures.empty
    (subst (λ (z : List Value). GainsFacts (built c.in_ok-target.target) (built c.loop-i.target) (canonical 0 c.args.rules.now (tuples_in z c.args.rows.now))) c.in_ok-target.ensures.symbols all) c.finish.ensures

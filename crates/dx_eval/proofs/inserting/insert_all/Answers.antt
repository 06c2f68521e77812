use Rattle.std.proofs.Common.{◌∙◌, ℕ, List, subst}
use Rattle.std.specs.Prelude.{map}
use Rattle.dx_model.specs.declared.values.Value.{Value}
use Rattle.dx_instance.proofs.ShownFacts.{extends_both, table_read}
use Rattle.dx_joins.specs.Shown.{texts_of}
use Rattle.dx_schema.specs.Names.{table_names_of}
use Rattle.dx_instance.proofs.NumberFacts.{stays}
use Rattle.dx_tgd.specs.Gained.{GainsFacts}
use Rattle.dx_tgd.specs.Planned.{built}
use Rattle.dx_tgd.specs.Texts.{tuples_in}
use Rattle.dx_eval.proofs.Inserts.{all_inserted, all_texts_there, all_there, none_below, places_low, rule_more_grown}
use Rattle.dx_eval.proofs.Partners.{texts_at}
use Rattle.dx_eval.specs.Inserting.{facts_by}
use Rattle.dx_eval.specs.Keeping.{Stay}
use Rattle.dx_eval.proofs.inserting.insert_all.Goals as goal

pub loop-rule-init : goal.loop-rule-init
loop-rule-init c = record {
  grows = stays c.args.target.now.symbols;
  wide = c.requires.empty.widths_are;
  made = none_below (table_names_of c.args.schema.now) c.args.steps.now (tuples_in c.args.target.now.symbols c.args.tables.now) (built c.args.target.now) c.requires.empty.none;
}

pub returns-clause-facts : goal.returns-clause-facts
returns-clause-facts c = all_inserted (table_names_of c.args.schema.now) c.args.steps.now c.args.target.now.symbols c.args.tables.now c.loop-rule.rule (built c.loop-rule.target) c.loop-rule-test.false c.loop-rule.invariant.made

pub invariant_of-own : goal.invariant_of-own
invariant_of-own c = record {
  there = c.loop-rule-test.true;
  texts = rw c.symbols.ensures.same (all_there c.args.target.now.symbols c.loop-rule.target.symbols c.args.tables.now c.loop-rule.invariant.grows c.requires.texts);
}

pub stay_places-requires : goal.stay_places-requires
stay_places-requires c = c.requires.steps.keeps

pub insert_rule-requires-clause-stand : goal.insert_rule-requires-clause-stand
insert_rule-requires-clause-stand c =
    let e = table_read c.args.tables.now c.loop-rule.rule c.index-tables-rule.result c.loop-rule-test.true c.index-tables-rule.is in
    rw e (λ table kept cells m. c.requires.steps.inserts table c.loop-rule.rule kept cells m)

pub insert_rule-requires-clause-texts : goal.insert_rule-requires-clause-texts
insert_rule-requires-clause-texts c =
    all_texts_there c.args.target.now.symbols c.loop-rule.target.symbols c.index-tables-rule.result.rows c.loop-rule.invariant.grows
    (texts_at c.args.target.now.symbols c.args.tables.now c.loop-rule.rule c.index-tables-rule.result c.loop-rule-test.true c.index-tables-rule.is c.requires.texts)

pub invariant_of-at : goal.invariant_of-at
invariant_of-at c = record {
  within = rw c.deref.ensures.value (places_low c.symbols.result.now c.args.tables.now c.args.steps.now c.loop-rule.rule c.index-tables-rule.result c.in_ok-places.places.items c.loop-rule-test.true c.index-tables-rule.is c.in_ok-places.ensures);
}

pub loop-rule-preserved : goal.loop-rule-preserved
loop-rule-preserved c =
    let N = table_names_of c.args.schema.now in
    let S = c.args.target.now.symbols in
    let T = c.loop-rule.target.symbols in
    let stay = subst (λ (z : List Value). Stay c.args.steps.now (tuples_in z c.args.tables.now) c.loop-rule.rule c.in_ok-places.places.items) c.symbols.ensures.same c.in_ok-places.ensures in
    let gained = subst (λ (ps : List ℕ). GainsFacts (built c.loop-rule.target) (built c.insert_rule.new.target) (facts_by N c.args.steps.now c.loop-rule.rule (map (texts_of T) c.index-tables-rule.result.rows) ps))
    c.deref.ensures.value c.in_ok-insert_rule.ensures.gained in
    record {
      grows = extends_both S T c.insert_rule.new.target.symbols c.loop-rule.invariant.grows c.in_ok-insert_rule.ensures.grows;
      wide = c.in_ok-insert_rule.ensures.gained.widths_stay ∙ c.loop-rule.invariant.wide;
      made = rule_more_grown N c.args.steps.now S T c.args.tables.now c.loop-rule.rule c.index-tables-rule.result c.in_ok-places.places.items (built c.loop-rule.target) (built c.insert_rule.new.target) c.requires.steps.reads c.loop-rule.invariant.grows
          c.requires.texts c.loop-rule-test.true c.index-tables-rule.is stay gained c.loop-rule.invariant.made;
    }

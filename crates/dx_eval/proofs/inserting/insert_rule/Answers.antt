use Rattle.std.proofs.Common.{◌∙◌, List, ap, subst}
use Rattle.std.specs.Prelude.{map}
use Rattle.dx_instance.proofs.ShownFacts.{extends_both}
use Rattle.dx_joins.specs.Shown.{texts_of}
use Rattle.dx_schema.specs.Names.{table_names_of}
use Rattle.dx_instance.proofs.NumberFacts.{stays}
use Rattle.dx_script.specs.declared.form.Out.{Out}
use Rattle.dx_script.specs.declared.form.Step.TheVariants.{InsertRows}
use Rattle.dx_tgd.specs.Gained.{GainsFacts}
use Rattle.dx_tgd.specs.Planned.{built}
use Rattle.dx_tgd.proofs.Gaining.{gains_nothing}
use Rattle.dx_eval.specs.Inserting.{inserted_facts, placed_fact}
use Rattle.dx_eval.proofs.Inserts.{all_gained, all_texts_there, cells_wide, gains_insert, gains_same, insert_of_another, other_facts, step_in, table_low}
use Rattle.dx_eval.proofs.inserting.insert_rule.Goals.{in-InsertRows+then-number-at+in_ok-insert_places, in-InsertRows+else-number-at, in_default}
use Rattle.dx_eval.proofs.inserting.insert_rule.Goals as goal

pub loop-step-init : goal.loop-step-init
loop-step-init c = record { grows = stays c.args.target.now.symbols; gains = gains_nothing (built c.args.target.now) }

pub table_number-table-requires : goal.table_number-table-requires
table_number-table-requires c =
    let m = step_in c.args.steps.now c.loop-step.step-index c.step-item.result (InsertRows c.in-InsertRows.table c.args.at.now.rule c.in-InsertRows.kept c.in-InsertRows.cells) c.loop-step-test.true c.step-item.is
    (c.in-InsertRows.is ∙ ap (λ z. InsertRows c.in-InsertRows.table z c.in-InsertRows.kept c.in-InsertRows.cells) c.if-number-at.true) in
    (c.requires.stand c.in-InsertRows.table c.in-InsertRows.kept c.in-InsertRows.cells m).named

pub insert_places-requires-clause-cells : goal.insert_places-requires-clause-cells
insert_places-requires-clause-cells c =
    let m = step_in c.args.steps.now c.loop-step.step-index c.step-item.result (InsertRows c.in-InsertRows.table c.args.at.now.rule c.in-InsertRows.kept c.in-InsertRows.cells) c.loop-step-test.true c.step-item.is
    (c.in-InsertRows.is ∙ ap (λ z. InsertRows c.in-InsertRows.table z c.in-InsertRows.kept c.in-InsertRows.cells) c.if-number-at.true) in
    let stands = c.requires.stand c.in-InsertRows.table c.in-InsertRows.kept c.in-InsertRows.cells m in
    let wide = c.loop-step.invariant.gains.widths_stay ∙ c.requires.widths in
    record {
      table_there = table_low c.args.schema.now (built c.loop-step.target) c.table_number-table.result wide c.table_number-table.ensures.there;
      many = cells_wide c.args.schema.now (built c.loop-step.target) c.in-InsertRows.table c.table_number-table.result c.in-InsertRows.cells c.items.result.now wide
          c.table_number-table.ensures.there c.table_number-table.ensures.number stands.many c.items.ensures;
      outs = rw c.items.ensures stands.outs;
    }

pub insert_places-requires-clause-texts : goal.insert_places-requires-clause-texts
insert_places-requires-clause-texts c = all_texts_there c.args.target.now.symbols c.loop-step.target.symbols c.args.at.now.rows.now.rows c.loop-step.invariant.grows c.requires.texts

pub loop-step-preserved : goal.loop-step-preserved
loop-step-preserved c =
    let N = table_names_of c.args.schema.now in
    let S = c.args.target.now.symbols in
    let T = c.loop-step.target.symbols in
    let rows = c.args.at.now.rows.now.rows in
    let r = c.args.at.now.rule in
    elim c.match-step.branch [
      | in-InsertRows+then-number-at+in_ok-insert_places w ↦ rw w.target-is (record {
        grows = extends_both S T w.insert_places.new.target.symbols c.loop-step.invariant.grows w.in_ok-insert_places.ensures.grows;
        gains = gains_insert N c.args.steps.now c.loop-step.step-index c.step-item.result w.in-InsertRows.table w.table_number-table.result r w.in-InsertRows.kept w.in-InsertRows.cells S T rows c.args.at.now.places.now
            c.loop-step-test.true c.step-item.is (w.in-InsertRows.is ∙ ap (λ z. InsertRows w.in-InsertRows.table z w.in-InsertRows.kept w.in-InsertRows.cells) w.if-number-at.true) w.table_number-table.ensures.number
            c.loop-step.invariant.grows c.requires.texts c.loop-step.invariant.gains
            (subst (λ (cells : List Out). GainsFacts (built c.loop-step.target) (built w.insert_places.new.target) (map (placed_fact w.table_number-table.result r (map (texts_of T) rows) cells) c.args.at.now.places.now)) w.items.ensures w.in_ok-insert_places.ensures.gained);
      })
      | in-InsertRows+else-number-at w ↦ rw w.target-is (record {
        grows = c.loop-step.invariant.grows;
        gains = gains_same (inserted_facts N r (map (texts_of S) rows) c.args.at.now.places.now) c.args.steps.now c.loop-step.step-index c.step-item.result c.loop-step-test.true c.step-item.is
            (other_facts N r (map (texts_of S) rows) c.args.at.now.places.now c.step-item.result
            (insert_of_another c.step-item.result w.in-InsertRows.table w.in-InsertRows.number r w.in-InsertRows.kept w.in-InsertRows.cells w.in-InsertRows.is w.if-number-at.false)) c.loop-step.invariant.gains;
      })
      | in_default w ↦ rw w.target-is (record {
        grows = c.loop-step.invariant.grows;
        gains = gains_same (inserted_facts N r (map (texts_of S) rows) c.args.at.now.places.now) c.args.steps.now c.loop-step.step-index c.step-item.result c.loop-step-test.true c.step-item.is
            (other_facts N r (map (texts_of S) rows) c.args.at.now.places.now c.step-item.result (λ t k cs. w.in_default.not-InsertRows t r k cs)) c.loop-step.invariant.gains;
      })
    ]

pub returns-clause-grows : goal.returns-clause-grows
returns-clause-grows c = c.loop-step.invariant.grows

pub returns-clause-gained : goal.returns-clause-gained
returns-clause-gained c =
    all_gained (inserted_facts (table_names_of c.args.schema.now) c.args.at.now.rule (map (texts_of c.args.target.now.symbols) c.args.at.now.rows.now.rows) c.args.at.now.places.now) c.args.steps.now c.loop-step.step-index c.loop-step-test.false c.loop-step.invariant.gains

use Rattle.std.proofs.Common.{◌∙◌, List, ap, length, subst, take}
use Rattle.std.proofs.lemmas.List.{take_all}
use Rattle.dx_instance.specs.Cells.{NumberTable}
use Rattle.dx_instance.proofs.ShownFacts.{table_read}
use Rattle.dx_script.specs.declared.form.Unless.{Unless}
use Rattle.dx_script.specs.declared.form.Step.TheVariants.{KeepRows}
use Rattle.dx_eval.specs.Keeping.{LacksPartners, KeepsPlaces}
use Rattle.dx_eval.proofs.Inserts.{step_in}
use Rattle.dx_eval.proofs.Partners.{keep_of_another, no_keep, stay_all, stay_keep, stay_other, stay_start}
use Rattle.dx_eval.proofs.keeping.stay_places.Goals.{in-KeepRows+then-number-of+in_ok-places-2, in-KeepRows+else-number-of, in_default}
use Rattle.dx_eval.proofs.keeping.stay_places.Goals as goal

pub loop-step-init : goal.loop-step-init
loop-step-init c =
    let e = table_read c.args.of.now.tables.now c.args.of.now.rule c.index-tables-of.result c.args.of.now.there c.index-tables-of.is in
    stay_start c.args.of.now.symbols.now c.args.of.now.tables.now c.args.of.now.rule c.count.result c.in_ok-places.places.items (c.count.ensures.count ∙ ap (λ (t : NumberTable). length t.rows) e) c.in_ok-places.ensures

pub left_by_parts-requires-clause-places : goal.left_by_parts-requires-clause-places
left_by_parts-requires-clause-places c = λ x m. ((c.loop-step.invariant x).0 m).0

pub left_by_parts-requires-clause-stand : goal.left_by_parts-requires-clause-stand
left_by_parts-requires-clause-stand c =
    rw c.items.ensures (c.requires c.args.of.now.rule c.in-KeepRows.unless (step_in c.args.steps.now c.loop-step.step-index c.step-item.result (KeepRows c.args.of.now.rule c.in-KeepRows.unless) c.loop-step-test.true c.step-item.is
    (c.in-KeepRows.is ∙ ap (λ z. KeepRows z c.in-KeepRows.unless) c.if-number-of.true)))

pub loop-step-preserved : goal.loop-step-preserved
loop-step-preserved c =
    let S = c.args.of.now.symbols.now in
    let ts = c.args.of.now.tables.now in
    let r = c.args.of.now.rule in
    elim c.match-step.branch [
      | in-KeepRows+then-number-of+in_ok-places-2 w ↦ rw w.places-is (stay_keep S ts r c.args.steps.now c.loop-step.step-index c.step-item.result c.loop-step-test.true c.step-item.is c.loop-step.places.items w.in_ok-places-2.places.items w.in-KeepRows.unless
          (w.in-KeepRows.is ∙ ap (λ z. KeepRows z w.in-KeepRows.unless) w.if-number-of.true) c.loop-step.invariant
          (subst (λ (us : List Unless). KeepsPlaces (LacksPartners S ts r us) c.loop-step.places.items w.in_ok-places-2.places.items) w.items.ensures w.in_ok-places-2.ensures))
      | in-KeepRows+else-number-of w ↦ rw w.places-is (stay_other S ts r c.args.steps.now c.loop-step.step-index c.step-item.result c.loop-step-test.true c.step-item.is c.loop-step.places.items
          (keep_of_another c.step-item.result w.in-KeepRows.number r w.in-KeepRows.unless w.in-KeepRows.is w.if-number-of.false) c.loop-step.invariant)
      | in_default w ↦ rw w.places-is (stay_other S ts r c.args.steps.now c.loop-step.step-index c.step-item.result c.loop-step-test.true c.step-item.is c.loop-step.places.items
          (no_keep c.step-item.result r w.in_default.not-KeepRows) c.loop-step.invariant)
    ]

pub returns : goal.returns
returns c =
    stay_all c.args.of.now.symbols.now c.args.of.now.tables.now c.args.of.now.rule c.args.steps.now (take c.loop-step.step-index c.args.steps.now) c.loop-step.places.items c.args.of.now.there (take_all c.loop-step.step-index c.args.steps.now c.loop-step-test.false)
    (λ q unless m u n. (c.requires q unless m u n).rule) c.loop-step.invariant

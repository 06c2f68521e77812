use Rattle.std.proofs.Common.{◌∙◌, ap, get_or}
use Rattle.std.proofs.lemmas.List.{get_or_default}
use Rattle.dx_base.proofs.Members.{in_at}
use Rattle.dx_instance.specs.Shown.{numbers_of_table}
use Rattle.dx_instance.proofs.ShownFacts.{table_read}
use Rattle.dx_tgd.proofs.Ascending.{row_there}
use Rattle.dx_eval.specs.Keeping.{LacksPartner, other_columns, own_columns}
use Rattle.dx_eval.proofs.Partners.{leaves_all, leaves_none, other_within, partner_is, place_gone, place_left, texts_at}
use Rattle.dx_eval.proofs.keeping.left_by_part.Goals.{then-not-branch+in_ok-push, else-not-branch}
use Rattle.dx_eval.proofs.keeping.left_by_part.Goals as goal

pub bounds-tables-part : goal.bounds-tables-part
bounds-tables-part c = c.requires.stands.rule

pub keys_of-requires : goal.keys_of-requires
keys_of-requires c =
    let O = numbers_of_table c.args.of.now.tables.now c.args.of.now.rule in
    let d = table_read c.args.of.now.tables.now c.args.part.now.rule c.index-tables-part.result c.requires.stands.rule c.index-tables-part.is in
    rw (c.deref.ensures.value, c.in_ok-columns_of_other.ensures, c.items-tests.ensures, d) (other_within c.args.part.now.tests O.width (numbers_of_table c.args.of.now.tables.now c.args.part.now.rule).width c.requires.stands.tests)

pub row-row-requires : goal.row-row-requires
row-row-requires c =
    let e = table_read c.args.of.now.tables.now c.args.of.now.rule c.index-tables-of.result c.args.of.now.there c.index-tables-of.is in
    rw e (c.requires.places _ (in_at c.args.places.now c.loop-place.place-index 0 c.loop-place-test.true))

pub has_partner-requires-clause-texts : goal.has_partner-requires-clause-texts
has_partner-requires-clause-texts c =
    let ts = c.args.of.now.tables.now in
    let e = table_read ts c.args.of.now.rule c.index-tables-of.result c.args.of.now.there c.index-tables-of.is in
    row_there c.args.of.now.symbols.now c.index-tables-of.result.rows (get_or c.args.places.now c.loop-place.place-index 0) c.row-row.result.now
    (texts_at c.args.of.now.symbols.now ts c.args.of.now.rule c.index-tables-of.result c.args.of.now.there c.index-tables-of.is c.args.of.now.texts)
    (rw e (c.requires.places _ (in_at c.args.places.now c.loop-place.place-index 0 c.loop-place-test.true))) c.row-row.ensures.row

pub has_partner-requires-clause-stand : goal.has_partner-requires-clause-stand
has_partner-requires-clause-stand c =
    let e = table_read c.args.of.now.tables.now c.args.of.now.rule c.index-tables-of.result c.args.of.now.there c.index-tables-of.is in
    ((numbers_of_table c.args.of.now.tables.now c.args.part.now.rule).width, rw (c.row-row.ensures.width, c.items-tests.ensures, e) c.requires.stands.tests)

pub loop-place-preserved : goal.loop-place-preserved
loop-place-preserved c =
    let S = c.args.of.now.symbols.now in
    let ts = c.args.of.now.tables.now in
    let r = c.args.of.now.rule in
    let u = c.args.part.now in
    let own = numbers_of_table ts r in
    let other = numbers_of_table ts u.rule in
    let e = table_read ts r c.index-tables-of.result c.args.of.now.there c.index-tables-of.is in
    let d = table_read ts u.rule c.index-tables-part.result c.requires.stands.rule c.index-tables-part.is in
    let k = get_or c.args.places.now c.loop-place.place-index 0 in
    let low = c.requires.places _ (in_at c.args.places.now c.loop-place.place-index 0 c.loop-place-test.true) in
    let here = get_or_default c.args.places.now c.loop-place.place-index 0 k c.loop-place-test.true in
    let own_texts = texts_at S ts r c.index-tables-of.result c.args.of.now.there c.index-tables-of.is c.args.of.now.texts in
    let other_texts = texts_at S ts u.rule c.index-tables-part.result c.requires.stands.rule c.index-tables-part.is c.args.of.now.texts in
    let row = c.row-row.ensures.row in
    let width = c.row-row.ensures.width in
    let wide = c.in_ok-keys.ensures.wide in
    let keys = c.in_ok-keys.ensures.keys in
    let p = partner_is S own other.rows c.in_ok-keys.keys.rows u.tests other.width k c.row-row.result.now c.deref.result.now c.deref-2.result.now c.in_ok-has_partner.field-0
    c.len.ensures.apart (rw e at own_texts) low (rw e at row) (rw e at width) (rw d at other_texts) (rw d at wide) c.requires.stands.tests (rw d at keys)
    (c.deref.ensures.value ∙ (c.in_ok-columns_of_other.ensures ∙ ap other_columns c.items-tests.ensures))
    (c.deref-2.ensures.value ∙ (c.in_ok-columns.ensures ∙ ap own_columns c.items-tests.ensures)) (rw c.items-tests.ensures at c.in_ok-has_partner.ensures) in
    elim c.if-not-branch.branch [
      | then-not-branch+in_ok-push w ↦ rw (w.left-is, w.in_ok-push.ensures.items) (place_left S own.rows other.rows u.tests c.args.places.now c.loop-place.left.items c.loop-place.place-index k c.in_ok-has_partner.field-0
          c.loop-place-test.true here w.if-not-branch.true p c.loop-place.invariant)
      | else-not-branch w ↦ rw w.left-is (place_gone S own.rows other.rows u.tests c.args.places.now c.loop-place.left.items c.loop-place.place-index k c.in_ok-has_partner.field-0
          c.loop-place-test.true here w.if-not-branch.false p c.loop-place.invariant)
    ]

pub returns : goal.returns
returns c =
    let ts = c.args.of.now.tables.now in
    leaves_all (LacksPartner c.args.of.now.symbols.now (numbers_of_table ts c.args.of.now.rule).rows (numbers_of_table ts c.args.part.now.rule).rows c.args.part.now.tests) c.args.places.now c.loop-place.left.items c.loop-place.place-index c.loop-place-test.false
    c.loop-place.invariant

pub loop-place-init : goal.loop-place-init
loop-place-init c =
    let ts = c.args.of.now.tables.now in
    rw c.new-left.ensures.items (leaves_none (LacksPartner c.args.of.now.symbols.now (numbers_of_table ts c.args.of.now.rule).rows (numbers_of_table ts c.args.part.now.rule).rows c.args.part.now.tests))

use Rattle.std.proofs.Common.{◌∙◌, subst, sym}
use Rattle.dx_model.specs.Rules.{TuplesAscend}
use Rattle.dx_tgd.proofs.Ascending.{row_there, tuples_ascend}
use Rattle.dx_tgd.proofs.Copied.{copied_all, copied_more, copied_none}
use Rattle.dx_tgd.proofs.texts.places_of_rows.Goals as goal

pub push_texts-requires : goal.push_texts-requires
push_texts-requires c = row_there c.args.symbols.now c.args.rows.now.rows c.loop-place.place c.row.result.now c.requires (rw (← c.count-place-end.ensures.count) c.loop-place-test.true) c.row.ensures.row

pub loop-place-init : goal.loop-place-init
loop-place-init c = copied_none c.args.symbols.now c.args.rows.now c.in_ok-texts.texts.items c.in_ok-texts.ensures.items

pub loop-place-preserved : goal.loop-place-preserved
loop-place-preserved c =
    copied_more c.args.symbols.now c.args.rows.now c.loop-place.place c.row.result.now c.loop-place.texts.items c.push_texts.new.texts.items (rw (← c.count-place-end.ensures.count) c.loop-place-test.true) c.row.ensures.row
    c.row.ensures.width c.loop-place.invariant c.in_ok-push_texts.ensures

pub of_texts-requires : goal.of_texts-requires
of_texts-requires c =
    (copied_all c.args.symbols.now c.args.rows.now c.loop-place.place c.count-count.result c.width-width.result c.loop-place.texts.items c.count-count.ensures.count c.width-width.ensures
    (rw (← c.count-place-end.ensures.count) c.loop-place-test.false) c.loop-place.invariant).0

pub returns-clause-exact : goal.returns-clause-exact
returns-clause-exact c =
    c.of_texts.ensures
    ∙ (copied_all c.args.symbols.now c.args.rows.now c.loop-place.place c.count-count.result c.width-width.result c.loop-place.texts.items c.count-count.ensures.count c.width-width.ensures
    (rw (← c.count-place-end.ensures.count) c.loop-place-test.false) c.loop-place.invariant).1

pub returns-clause-ascend : goal.returns-clause-ascend
returns-clause-ascend c = λ up n.
    let all = (copied_all c.args.symbols.now c.args.rows.now c.loop-place.place c.count-count.result c.width-width.result c.loop-place.texts.items c.count-count.ensures.count c.width-width.ensures
    (rw (← c.count-place-end.ensures.count) c.loop-place-test.false) c.loop-place.invariant).1 in
    subst TuplesAscend (sym (c.of_texts.ensures ∙ all)) (tuples_ascend c.args.symbols.now c.args.rows.now.rows up c.requires n)

use Rattle.std.proofs.Common.{[], ◌∙◌, ap, get_or, length, map, refl, subst, sym, take}
use Rattle.std.specs.Prelude.{codes}
use Rattle.std.proofs.lemmas.List.{length-map, take_all}
use Rattle.dx_base.proofs.Members.{in_at}
use Rattle.dx_model.specs.declared.values.NullId.{NullId}
use Rattle.clio_files.specs.Printing.{AreRecords}
use Rattle.clio_files.specs.Sheets.{nulls_sheet}
use Rattle.dx_rule_text.specs.Printed.{variable_text}
use Rattle.clio_files.proofs.SheetLists.{variables_at, lines_of, null_lines_more, sheet_told, has_list}
use Rattle.clio_files.proofs.sheets.nulls_file.Goals as goal

pub bounds-items-null : goal.bounds-items-null
bounds-items-null c =
    let p = c.requires _ (in_at c.args.nulls.now c.loop-null.null-index (record { rule = 0; var = 0; row = 0 }) c.loop-null-test.true) in
    rw (c.items-in-loop-null.ensures, c.in_ok-lists.ensures, length-map) p.place.rule

pub tuple-tuple-requires-clause-rule : goal.tuple-tuple-requires-clause-rule
tuple-tuple-requires-clause-rule c =
    let p = c.requires _ (in_at c.args.nulls.now c.loop-null.null-index (record { rule = 0; var = 0; row = 0 }) c.loop-null-test.true) in
    has_list c.args.matches.now _ _ p.place.place

pub tuple-tuple-requires-clause-place : goal.tuple-tuple-requires-clause-place
tuple-tuple-requires-clause-place c =
    let p = c.requires _ (in_at c.args.nulls.now c.loop-null.null-index (record { rule = 0; var = 0; row = 0 }) c.loop-null-test.true) in
    p.place.place

pub push_terms-requires-clause-wide : goal.push_terms-requires-clause-wide
push_terms-requires-clause-wide c =
    let null : NullId = get_or c.args.nulls.now c.loop-null.null-index (record { rule = 0; var = 0; row = 0 }) in
    let p = c.requires _ (in_at c.args.nulls.now c.loop-null.null-index (record { rule = 0; var = 0; row = 0 }) c.loop-null-test.true) in
    let same = c.items-in-loop-null.ensures ∙ c.in_ok-lists.ensures in
    let xs = c.items-variables.ensures ∙ variables_at c.args.rules.now null c.items-in-loop-null.result.now c.index-items-null.result same p.place.rule c.index-items-null.is in
    ap length c.tuple-tuple.ensures
    ∙ (p.wide ∙ ap length (sym xs))

pub loop-null-init : goal.loop-null-init
loop-null-init c = c.in_ok-push_nulls_header.ensures (c.make_room.ensures [] [] c.new-records.ensures)

pub loop-null-preserved : goal.loop-null-preserved
loop-null-preserved c =
    let i = c.loop-null.null-index in
    let rows = c.args.matches.now in
    let null : NullId = get_or c.args.nulls.now i (record { rule = 0; var = 0; row = 0 }) in
    let p = c.requires _ (in_at c.args.nulls.now i (record { rule = 0; var = 0; row = 0 }) c.loop-null-test.true) in
    let same = c.items-in-loop-null.ensures ∙ c.in_ok-lists.ensures in
    let xs =
    ap (map variable_text)
    (c.items-variables.ensures ∙ variables_at c.args.rules.now null c.items-in-loop-null.result.now c.index-items-null.result same p.place.rule c.index-items-null.is) in
    let lines = lines_of (nulls_sheet c.args.rules.now rows (take i c.args.nulls.now)) in
    let pushed = rw (xs, c.tuple-tuple.ensures) at (c.in_ok-push_terms.ensures lines c.loop-null.invariant) in
    subst (AreRecords c.push_terms.new.records)
    (null_lines_more c.args.rules.now rows c.args.nulls.now i (record { rule = 0; var = 0; row = 0 }) lines c.loop-null-test.true refl)
    pushed

pub returns : goal.returns
returns c =
    let rows = c.args.matches.now in
    let all = take_all c.loop-null.null-index c.args.nulls.now c.loop-null-test.false in
    sheet_told c.sheet_file.result (codes "nulls.csv") c.loop-null.records (nulls_sheet c.args.rules.now rows c.args.nulls.now)
    c.sheet_file.ensures refl
    (subst (λ ns. AreRecords c.loop-null.records (lines_of (nulls_sheet c.args.rules.now rows ns))) all c.loop-null.invariant)

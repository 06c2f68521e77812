use Rattle.std.proofs.Common.{arith, ℕ, List, refl, subst, take}
use Rattle.std.specs.Prelude.{codes}
use Rattle.std.proofs.lemmas.List.{take_all}
use Rattle.clio_files.specs.Answers.{answers_sheet}
use Rattle.clio_files.specs.Printing.{AreRecords}
use Rattle.clio_files.proofs.AnswerLists.{answers_more}
use Rattle.clio_files.proofs.SheetLists.{lines_of, sheet_told}
use Rattle.clio_files.proofs.answers.answers_file.Goals as goal

pub loop-place-init : goal.loop-place-init
loop-place-init c = c.in_ok-push_column_names.ensures c.new-records.ensures

pub loop-place-preserved : goal.loop-place-preserved
loop-place-preserved c =
    let lines = lines_of (answers_sheet c.args.width (take c.loop-place.place c.args.rows.now)) in
    subst (AreRecords c.push_answer.new.records)
    (answers_more c.args.width c.args.rows.now c.loop-place.place c.tuple.result.now (omega (arith, c.loop-place-test.true, c.len-place-end.ensures)) c.tuple.ensures)
    (c.in_ok-push_answer.ensures lines c.loop-place.invariant)

pub returns : goal.returns
returns c =
    let all = take_all c.loop-place.place c.args.rows.now (omega (arith, c.loop-place-test.false, c.len-place-end.ensures)) in
    sheet_told c.sheet_file.result (codes "answers.csv") c.loop-place.records (answers_sheet c.args.width c.args.rows.now) c.sheet_file.ensures refl
    (subst (λ (rows : List (List (List ℕ))). AreRecords c.loop-place.records (lines_of (answers_sheet c.args.width rows))) all c.loop-place.invariant)

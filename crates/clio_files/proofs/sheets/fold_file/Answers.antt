use Rattle.std.proofs.Common.{◌∙◌, refl, subst, take}
use Rattle.std.specs.Prelude.{codes}
use Rattle.std.proofs.lemmas.List.{take_all}
use Rattle.dx_instance.specs.NullMaps.{pairs_of}
use Rattle.clio_files.specs.Printing.{AreRecords}
use Rattle.clio_files.specs.Sheets.{fold_sheet}
use Rattle.clio_files.proofs.SheetLists.{fold_more, lines_of, sheet_told}
use Rattle.clio_files.proofs.sheets.fold_file.Goals as goal

pub loop-pair-init : goal.loop-pair-init
loop-pair-init c = c.in_ok-push_fold_header.ensures c.new-records.ensures

pub loop-pair-preserved : goal.loop-pair-preserved
loop-pair-preserved c =
    let i = c.loop-pair.pair-index in
    subst (AreRecords c.push_pair.new.records)
    (fold_more c.as_slice-pair-items.result.now i c.pair-item.result c.loop-pair-test.true c.pair-item.is)
    (c.in_ok-push_pair.ensures (lines_of (fold_sheet (take i c.as_slice-pair-items.result.now))) c.loop-pair.invariant)

pub returns : goal.returns
returns c =
    let all =
    take_all c.loop-pair.pair-index c.as_slice-pair-items.result.now c.loop-pair-test.false ∙ c.as_slice-pair-items.ensures.value
    ∙ c.in_ok-pairs.ensures.pairs in
    sheet_told c.sheet_file.result (codes "fold.csv") c.loop-pair.records (fold_sheet (pairs_of c.args.fold.now)) c.sheet_file.ensures refl
    (subst (λ ps. AreRecords c.loop-pair.records (lines_of (fold_sheet ps))) all c.loop-pair.invariant)

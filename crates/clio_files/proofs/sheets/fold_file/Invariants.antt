use Rattle.std.proofs.Common.{take}
use Rattle.clio_files.specs.Printing.{AreRecords}
use Rattle.clio_files.specs.Sheets.{fold_sheet}
use Rattle.clio_files.proofs.SheetLists.{lines_of}
use Rattle.clio_files.proofs.sheets.fold_file.Given as goal

-- the header and the records of the pairs so far
abbrev pub invariant-loop-pair : goal.invariant-loop-pair
invariant-loop-pair l = AreRecords l.records (lines_of (fold_sheet (take l.pair-index l.pair-items)))

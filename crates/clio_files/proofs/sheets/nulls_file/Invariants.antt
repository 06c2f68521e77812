use Rattle.std.proofs.Common.{take}
use Rattle.clio_files.specs.Printing.{AreRecords}
use Rattle.clio_files.specs.Sheets.{nulls_sheet}
use Rattle.clio_files.proofs.SheetLists.{lines_of}
use Rattle.clio_files.proofs.sheets.nulls_file.Given as goal

-- the header and the records of the nulls so far
abbrev pub invariant-loop-null : goal.invariant-loop-null
invariant-loop-null l = AreRecords l.records (lines_of (nulls_sheet l.rules l.matches (take l.null-index l.nulls)))

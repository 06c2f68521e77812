use Rattle.std.proofs.Common.{take}
use Rattle.clio_files.specs.Answers.{answers_sheet}
use Rattle.clio_files.specs.Printing.{AreRecords}
use Rattle.clio_files.proofs.SheetLists.{lines_of}
use Rattle.clio_files.proofs.answers.answers_file.Given as goal

-- the header and the records of the answers so far
abbrev pub invariant-loop-place : goal.invariant-loop-place
invariant-loop-place l = AreRecords l.records (lines_of (answers_sheet l.width (take l.place l.rows)))

use Rattle.std.proofs.Common.{◌≤◌, []}
use Rattle.clio_files.specs.Answers.{column_names}
use Rattle.clio_files.specs.Printing.{AreRecords, HasFields}
use Rattle.clio_files.proofs.answers.push_column_names.Given as goal

-- the names of the columns so far are fields of the first record
abbrev pub invariant-loop-column : goal.invariant-loop-column
invariant-loop-column l =
    (l.column ≤ l.width) × (AreRecords l.fn.records [] → HasFields l.records [] (column_names 0 l.column))

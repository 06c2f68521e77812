use Rattle.std.proofs.Common.{◌++◌, List, ℕ, map, take}
use Rattle.clio_files.specs.Printing.{AreRecords}
use Rattle.clio_files.specs.Sheets.{term_records}
use Rattle.dx_rule_text.specs.Printed.{variable_text}
use Rattle.clio_files.proofs.sheets.push_terms.Given as goal

-- the records of the variables so far
abbrev pub invariant-loop-column : goal.invariant-loop-column
invariant-loop-column l =
    (rs : List (List (List ℕ))) → AreRecords l.fn.records rs
    → AreRecords l.records (rs ++ term_records l.null (map variable_text (take l.column l.variables)) l.tuple)

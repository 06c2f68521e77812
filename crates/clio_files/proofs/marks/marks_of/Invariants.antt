use Rattle.std.proofs.Common.{◌≡◌, ◌+◌, length, take}
use Rattle.clio_files.specs.Marks.{AreMarks, table_numbers}
use Rattle.clio_files.proofs.marks.marks_of.Given as goal

abbrev pub invariant-loop-table : goal.invariant-loop-table
invariant-loop-table l = record {
  many : l.first + length l.marks.items ≡ length l.target.symbols;
  marked : AreMarks l.first (table_numbers (take l.table l.target.tables)) l.marks.items;
}

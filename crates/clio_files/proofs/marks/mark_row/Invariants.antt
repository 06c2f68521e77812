use Rattle.std.proofs.Common.{◌≡◌, ℕ, List, ◌++◌, length, take}
use Rattle.clio_files.specs.Marks.{AreMarks}
use Rattle.clio_files.proofs.marks.mark_row.Given as goal

abbrev pub invariant-loop-number : goal.invariant-loop-number
invariant-loop-number l = record {
  many : length l.marks.items ≡ length l.fn.marks.items;
  marked : (seen : List ℕ) → AreMarks l.first seen l.fn.marks.items → AreMarks l.first (seen ++ take l.number-index l.row) l.marks.items;
}

use Rattle.std.proofs.Common.{◌≡◌, ℕ, List, ◌++◌, length, take}
use Rattle.std.specs.List.{concat}
use Rattle.dx_instance.specs.Shown.{numbers_of_table}
use Rattle.clio_files.specs.Marks.{AreMarks}
use Rattle.clio_files.proofs.marks.mark_table.Given as goal

abbrev pub invariant-loop-place : goal.invariant-loop-place
invariant-loop-place l = record {
  many : length l.marks.items ≡ length l.fn.marks.items;
  marked : (seen : List ℕ) → AreMarks l.first seen l.fn.marks.items
      → AreMarks l.first (seen ++ concat (take l.place (numbers_of_table l.target.tables l.table).rows)) l.marks.items;
}

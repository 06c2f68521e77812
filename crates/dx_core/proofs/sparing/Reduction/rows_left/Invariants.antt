use Rattle.dx_instance.specs.Shown.{numbers_of_table}
use Rattle.dx_core.proofs.Kept.{AreLeftTo}
use Rattle.dx_core.proofs.sparing.Reduction.rows_left.Given as goal

abbrev pub invariant-loop-place : goal.invariant-loop-place
invariant-loop-place l = AreLeftTo l.self.taken l.table (numbers_of_table l.self.numbers.tables l.table) l.place l.rows

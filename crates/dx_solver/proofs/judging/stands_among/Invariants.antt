use Rattle.std.proofs.Common.{◌≤◌, ◌<◌, ◌-◌, ℕ, length}
use Rattle.dx_instance.specs.Shown.{numbers_of_table}
use Rattle.dx_solver.specs.Domains.{IsImageRow}
use Rattle.dx_solver.specs.Questions.{answered}
use Rattle.dx_solver.proofs.judging.stands_among.Given as goal

abbrev pub decreases-loop-place : goal.decreases-loop-place
decreases-loop-place l = length (numbers_of_table l.question.numbers.now.tables l.atom.table).rows - l.next

abbrev pub invariant-loop-place : goal.invariant-loop-place
invariant-loop-place l = record {
  none : (p : ℕ) → 0 ≤ p → p < l.next → ¬ (IsImageRow l.question.numbers.now.tables l.question.taken.now (answered l.xs) l.atom p);
  next : l.next ≤ length (numbers_of_table l.question.numbers.now.tables l.atom.table).rows;
}

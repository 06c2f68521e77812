use Rattle.std.proofs.Common.{◌≤◌, ◌-◌, length}
use Rattle.dx_instance.specs.Shown.{numbers_of_table}
use Rattle.dx_solver.specs.Domains.{NoImage}
use Rattle.dx_solver.proofs.rows.next_candidate.Given as goal

abbrev pub decreases-loop-place : goal.decreases-loop-place
decreases-loop-place l = length (numbers_of_table l.question.numbers.now.tables l.atom.table).rows - l.next

abbrev pub invariant-loop-place : goal.invariant-loop-place
invariant-loop-place l = record {
  after : l.from ≤ l.next;
  none : NoImage l.question.numbers.now.tables l.question.taken.now l.domains l.atom l.from l.next;
}

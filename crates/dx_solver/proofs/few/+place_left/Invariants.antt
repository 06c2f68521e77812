use Rattle.std.proofs.Common.{◌≤◌, ◌<◌, ◌-◌, ℕ, length}
use Rattle.dx_instance.specs.Shown.{numbers_of_table}
use Rattle.dx_solver.specs.Domains.{IsImageRow, Keeps}
use Rattle.dx_solver.specs.Questions.{Solves}
use Rattle.dx_solver.proofs.few.+place_left.Given as goal

abbrev pub decreases-place_left : goal.decreases-place_left
decreases-place_left l = l.depth

abbrev pub decreases-loop-at : goal.decreases-loop-at
decreases-loop-at l = length (numbers_of_table l.question.numbers.now.tables l.atom.table).rows - l.next

abbrev pub invariant-loop-at : goal.invariant-loop-at
invariant-loop-at l = record {
  none : (a : ℕ → ℕ) → Keeps l.domains a
      → Solves l.question.numbers.now.tables l.question.taken.now l.question.atoms.now l.question.known.now a
      → (p : ℕ) → p < l.next → ¬ (IsImageRow l.question.numbers.now.tables l.question.taken.now a l.atom p);
  next : l.next ≤ length (numbers_of_table l.question.numbers.now.tables l.atom.table).rows;
}

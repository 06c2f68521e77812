use Rattle.std.proofs.Common.{◌≤◌, ◌<◌, ◌-◌, ℕ, length}
use Rattle.dx_base.specs.Members.{◌∈◌, Each}
use Rattle.dx_instance.specs.Shown.{numbers_of_table}
use Rattle.dx_solver.specs.Domains.{IsImageRow, Keeps}
use Rattle.dx_solver.proofs.rows.candidates.Given as goal

abbrev pub decreases-loop-place : goal.decreases-loop-place
decreases-loop-place l = length (numbers_of_table l.question.numbers.now.tables l.atom.table).rows - l.next

abbrev pub invariant-loop-place : goal.invariant-loop-place
invariant-loop-place l = record {
  all : (a : ℕ → ℕ) → Keeps l.domains a → (p : ℕ) → p < l.next
      → IsImageRow l.question.numbers.now.tables l.question.taken.now a l.atom p → p ∈ l.places.items;
  within : Each l.places.items (λ p. p < length (numbers_of_table l.question.numbers.now.tables l.atom.table).rows);
  few : length l.places.items ≤ l.next;
  next : l.next ≤ length (numbers_of_table l.question.numbers.now.tables l.atom.table).rows;
}

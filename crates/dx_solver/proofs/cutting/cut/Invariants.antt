use Rattle.std.proofs.Common.{◌≡◌, ◌≤◌, ◌^◌, ℕ, length}
use Rattle.dx_base.specs.Members.{◌∈◌}
use Rattle.dx_solver.specs.Domains.{IsImageRow, Keeps, weight}
use Rattle.dx_solver.proofs.cutting.cut.Given as goal

abbrev pub invariant-loop-column : goal.invariant-loop-column
invariant-loop-column l = record {
  kept : (a : ℕ → ℕ) (p : ℕ) → Keeps l.initial.domains.items a → p ∈ l.rows
      → IsImageRow l.question.numbers.now.tables l.question.taken.now a l.atom p → Keeps l.domains.items a;
  many : length l.domains.items ≡ length l.initial.domains.items;
  lighter : weight (2 ^ 32) l.domains.items ≤ weight (2 ^ 32) l.initial.domains.items;
}

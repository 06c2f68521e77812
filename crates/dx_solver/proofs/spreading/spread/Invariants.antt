use Rattle.std.proofs.Common.{◌≡◌, ◌≤◌, ◌^◌, ℕ, length}
use Rattle.dx_base.specs.Members.{Each}
use Rattle.dx_solver.specs.Domains.{Keeps, weight}
use Rattle.dx_solver.specs.Questions.{HasImageRow}
use Rattle.dx_solver.proofs.spreading.spread.Given as goal

abbrev pub invariant-loop : goal.invariant-loop
invariant-loop l = record {
  kept : (a : ℕ → ℕ) → Keeps l.initial.domains.items a → Each l.atoms (HasImageRow l.question.numbers.now.tables l.question.taken.now a)
      → Keeps l.domains.items a;
  many : length l.domains.items ≡ length l.initial.domains.items;
  lighter : weight (2 ^ 32) l.domains.items ≤ weight (2 ^ 32) l.initial.domains.items;
}

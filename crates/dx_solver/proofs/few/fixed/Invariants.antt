use Rattle.std.proofs.Common.{◌≡◌, ℕ, length, map}
use Rattle.dx_solver.specs.Domains.{Keeps}
use Rattle.dx_solver.specs.Questions.{number_under}
use Rattle.dx_solver.proofs.few.fixed.Given as goal

abbrev pub invariant-loop-column : goal.invariant-loop-column
invariant-loop-column l = record {
  many : length l.all.items ≡ length l.domains;
  kept : (a : ℕ → ℕ) → Keeps l.domains a → l.row ≡ map (number_under a) l.terms → Keeps l.all.items a;
}

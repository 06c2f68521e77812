use Rattle.std.proofs.Common.{◌≡◌, ℕ, length, get_or}
use Rattle.std.specs.Prelude.{None, Some}
use Rattle.dx_solver.specs.Domains.{Keeps}
use Rattle.dx_solver.proofs.solving.known_domains.Given as goal

abbrev pub invariant-loop-variable : goal.invariant-loop-variable
invariant-loop-variable l = record {
  many : length l.domains.items ≡ l.variable;
  keeps : (a : ℕ → ℕ) → ((v n : ℕ) → get_or l.known v None ≡ Some n → a v ≡ n) → Keeps l.domains.items a;
}

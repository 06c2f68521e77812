use Rattle.std.proofs.Common.{◌≡◌, ◌<◌, ℕ, length, get_or}
use Rattle.std.specs.Prelude.{None}
use Rattle.dx_solver.specs.declared.domain.Domain.TheVariants.{Any}
use Rattle.dx_solver.specs.Domains.{IsLeftNumber}
use Rattle.dx_solver.specs.Questions.{answered}
use Rattle.dx_solver.proofs.judging.numbers_left.Given as goal

abbrev pub invariant-loop-variable : goal.invariant-loop-variable
invariant-loop-variable l = record {
  many : length l.all.items ≡ l.variable;
  left : (v : ℕ) → v < l.variable → IsLeftNumber (get_or l.known v None) (get_or l.domains v Any) (answered l.all.items v);
}

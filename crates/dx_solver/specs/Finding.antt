-- What a search finds.
use Rattle.std.specs.Prelude.{◌≡◌, ℕ, List, length}
use Rattle.dx_solver.specs.declared.domain.Domain.{Domain}
use Rattle.dx_solver.specs.declared.few.Found.{Found}
use Rattle.dx_solver.specs.declared.few.Found.TheVariants.{Answer, Nothing, Unknown}
use Rattle.dx_solver.specs.Domains.{Keeps}
use Rattle.dx_solver.specs.Questions.{answered}

-- numbers for n variables of which P holds, or that P holds of none that the domains allow
abbrev pub FindsNumbers : ((ℕ → ℕ) → Type 0) → List Domain → ℕ → Found → Type 0
FindsNumbers P ds n (Answer xs) = (length xs.items ≡ n) × P (answered xs.items)
FindsNumbers P ds n Nothing = (a : ℕ → ℕ) → Keeps ds a → ¬ (P a)
FindsNumbers P ds n Unknown = Unit {0}

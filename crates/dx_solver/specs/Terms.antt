-- Two terms are equal in one way at most, as a fact that a struct keeps must.
use Rattle.std.specs.Prelude.{◌≡◌, ◌⊎◌, ℕ}
use Rattle.std.specs.Coded.{Coded-set, code_by, coded⊎, coded_ℕ}
use mathlib.Core.Logic.{inl, inr}
use mathlib.Core.Path.{refl}
use Rattle.dx_solver.specs.declared.atom.Term.{Term}
use Rattle.dx_solver.specs.declared.atom.Term.TheVariants.{Number, Variable}

abbrev side_of : Term → ℕ ⊎ ℕ
side_of (Number n) = inl n
side_of (Variable v) = inr v

abbrev term_of : ℕ ⊎ ℕ → Term
term_of (inl n) = Number n
term_of (inr v) = Variable v

term_of-side_of : (t : Term) → term_of (side_of t) ≡ t
term_of-side_of (Number n) = refl
term_of-side_of (Variable v) = refl

pub Term-set : (t u : Term) → IsProp (t ≡ u)
Term-set = Coded-set (code_by (ℕ ⊎ ℕ) (coded⊎ coded_ℕ coded_ℕ) side_of term_of term_of-side_of)

-- The least variable of cells from a number on.
use Rattle.std.specs.Prelude.{ℕ, ◌<◌, ◌≤◌, List, Option, MatchOption}
use Rattle.dx_base.specs.Members.{◌∈◌}
use Rattle.dx_model.specs.declared.rules.Cell.{Cell}
use Rattle.dx_model.specs.declared.rules.Cell.TheVariants.{Var}

-- the least variable that is at least n
abbrev pub IsLeast : List Cell → ℕ → Option ℕ → Type 0
IsLeast cells n o =
    MatchOption o ((x : ℕ) → Var x ∈ cells → x < n)
    (λ y. (n ≤ y) × (Var y ∈ cells) × ((x : ℕ) → Var x ∈ cells → n ≤ x → y ≤ x))

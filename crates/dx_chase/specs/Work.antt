-- What waits once more numbers wait.
use Rattle.std.specs.Prelude.{ℕ, ◌⊎◌, List}
use Rattle.dx_base.specs.Members.{◌∈◌, ◌⊆◌, Each}

-- the new list has what the old one has and the numbers, and nothing else
pub record AddsNumbers (more old new : List ℕ) : Type 0 where
  pub stays : old ⊆ new
  pub all : more ⊆ new
  pub either : Each new (λ i. (i ∈ old) ⊎ (i ∈ more))

-- The order in which facts are moved, by their places.
use Rattle.std.specs.Prelude.{◌≡◌, ◌↔◌, ℕ, ◌<◌, List, [], length, slice_index_or, take}
use Rattle.dx_base.specs.Members.{◌∈◌, Each}
use Rattle.dx_model.specs.declared.facts.Fact.{Fact}

-- each number below n stands in it, and no other
pub record IsOrder (n : ℕ) (order : List ℕ) : Type 0 where
  pub many : length order ≡ n
  pub within : Each order (λ i. i < n)
  pub all : (i : ℕ) → i < n → i ∈ order

-- the same numbers, the first k of them where they were
pub record IsReordered (k : ℕ) (old new : List ℕ) : Type 0 where
  pub many : length new ≡ length old
  pub first : take k new ≡ take k old
  pub same : (i : ℕ) → (i ∈ new) ↔ (i ∈ old)

-- a fact by its place
abbrev pub fact_in : List Fact → ℕ → Fact
fact_in F i = slice_index_or F i (record { table = 0; row = [] })

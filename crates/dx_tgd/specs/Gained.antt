-- What an instance gains.
use Rattle.std.specs.Prelude.{◌≡◌, ◌≤◌, ◌+◌, ◌-◌, ◌^◌, ◌⊎◌, ℕ, List, length}
use Rattle.dx_base.specs.Members.{◌∈◌, ◌⊆◌, Each}
use Rattle.dx_model.specs.declared.facts.Fact.{Fact}
use Rattle.dx_instance.specs.Stored.{TableRows, facts, rows_of, widths}

-- each table has room for n rows more
abbrev pub HasRoomForRows : List TableRows → ℕ → Type 0
HasRoomForRows I n = (t : ℕ) → length (rows_of I t) + n ≤ 2 ^ 32 - 1

-- the new instance has the facts of the old one and these, in tables of the same widths
pub record GainsFacts (old new : List TableRows) (more : List Fact) : Type 0 where
  pub widths_stay : widths new ≡ widths old
  pub kept : facts old ⊆ facts new
  pub there : more ⊆ facts new
  pub only : Each (facts new) (λ f. (f ∈ facts old) ⊎ (f ∈ more))
  pub few : (t : ℕ) → length (rows_of new t) ≤ length (rows_of old t) + length more

-- The room that rules need.
use Rattle.std.specs.Prelude.{ℕ, ◌≤◌, length}
use Rattle.dx_model.specs.declared.rules.Rule.{Rule}
use Rattle.dx_model.specs.Rules.{cells_of}
use Rattle.dx_model.specs.Covers.{after_existential}

-- for how many atoms of a conclusion there is room, and for how many existential variables
pub record Size : Type 0 where
  pub atoms : ℕ
  pub existentials : ℕ

-- a rule has no more of either
pub record FitsRoom (room : Size) (d : Rule) : Type 0 where
  pub atoms : length d.conclusion ≤ room.atoms
  pub existentials : after_existential (cells_of d.conclusion) ≤ room.existentials

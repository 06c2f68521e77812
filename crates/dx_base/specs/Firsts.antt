-- The first that is there.
use Rattle.std.specs.Prelude.{Option, Some, None, List, [], ◌∷◌}

-- the first of these that is there, such as the first fault of many
abbrev pub first_of : {X : Type 0} → List (Option X) → Option X
first_of [] = None
first_of (None ∷ others) = first_of others
first_of (Some x ∷ others) = Some x

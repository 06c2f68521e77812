-- The tuples of matches.
use Rattle.std.specs.Prelude.{map}
use Rattle.dx_model.specs.declared.matches.Places.{Places}
use Rattle.dx_model.specs.declared.matches.Matches.{Matches}
use Rattle.dx_model.specs.Values.{Rows}

-- the tuples of each rule
abbrev pub rows_of_matches : Matches → Rows
rows_of_matches m = map (λ (p : Places). p.tuples) m.rules

-- Facts whose constants are parts of a list of texts.
use Rattle.std.specs.Prelude.{◌≤◌, ◌-◌, ℕ, List, length, map, take, drop}
use Rattle.dx_model.specs.declared.values.Value.{Value}
use Rattle.dx_model.specs.declared.values.Value.TheVariants.{Const}
use Rattle.dx_model.specs.declared.facts.Fact.{Fact}
use Rattle.dx_json.specs.declared.facts.Line.{Line}

-- the constants of the texts from a place up to another
abbrev pub constants_in : List (List ℕ) → ℕ → ℕ → List Value
constants_in texts start end = map Const (take (end - start) (drop start texts))

abbrev pub line_fact : List (List ℕ) → Line → Fact
line_fact texts line = record { table = line.table; row = constants_in texts line.start line.end }

-- the texts are there
pub record IsLine (texts : List (List ℕ)) (line : Line) : Type 0 where
  pub order : line.start ≤ line.end
  pub within : line.end ≤ length texts

-- Rows of numbers that stand for the texts of rules.
use Rattle.std.specs.Prelude.{◌≡◌, List, length, map}
use Rattle.std.specs.List.{AllZip}
use Rattle.dx_base.specs.Members.{Each}
use Rattle.dx_model.specs.declared.values.Value.{Value}
use Rattle.dx_model.specs.declared.rules.Rule.{Rule}
use Rattle.dx_model.specs.Values.{Rows}
use Rattle.dx_model.specs.Rules.{exported}
use Rattle.dx_instance.specs.Cells.{NumberTable}
use Rattle.dx_joins.specs.Shown.{AllTexts, texts_of}

-- the tuples for which the rows of each table stand
abbrev pub tuples_in : List Value → List NumberTable → Rows
tuples_in symbols tables = map (λ (t : NumberTable). map (texts_of symbols) t.rows) tables

-- the rows stand for texts of the rule's exported variables
pub record FitRule (symbols : List Value) (d : Rule) (t : NumberTable) : Type 0 where
  pub width : t.width ≡ length (exported d)
  pub texts : Each t.rows (AllTexts symbols)

-- each rule has such rows
abbrev pub FitRules : List Value → List Rule → List NumberTable → Type 0
FitRules symbols R tables = AllZip (FitRule symbols) R tables

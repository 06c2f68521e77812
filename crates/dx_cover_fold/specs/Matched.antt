-- Matches as rows of numbers, and the tuples for which the rows stand.
use Rattle.std.specs.Prelude.{◌<◌, ◌-◌, ◌^◌, List, length, map}
use Rattle.dx_base.specs.Members.{Each}
use Rattle.dx_model.specs.declared.values.Value.{Value}
use Rattle.dx_model.specs.Values.{Rows}
use Rattle.dx_instance.specs.Cells.{NumberTable}
use Rattle.dx_instance.specs.Numbers.{ValuesDiffer}
use Rattle.dx_instance.specs.Shown.{NumberedInstance}
use Rattle.dx_joins.specs.Shown.{AllTexts, texts_of}

-- the tuples of each rule
abbrev pub tuples_of : List Value → List NumberTable → Rows
tuples_of symbols tables = map (λ (t : NumberTable). map (texts_of symbols) t.rows) tables

-- the tuples of matches whose rows stand as numbers
abbrev pub matched_tuples : NumberedInstance → Rows
matched_tuples m = tuples_of m.symbols m.tables

-- what holds of rows that are compared by their numbers: symbols are distinct, and two more numbers are left; each
-- number of a row stands for a text
pub record RowsAreComparable (symbols : List Value) (tables : List NumberTable) : Type 0 where
  pub apart : ValuesDiffer symbols
  pub few : length symbols < 2 ^ 32 - 1
  pub texts : Each tables (λ (t : NumberTable). Each t.rows (AllTexts symbols))

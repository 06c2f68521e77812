-- Tests by the places of variables, and rules with the covers between them.
use Rattle.std.specs.Prelude.{◌≡◌, ℕ, eqb, List, map, length, slice_index_or}
use Rattle.std.specs.List.{position_or_len}
use Rattle.dx_model.specs.declared.rules.Cell.{Cell}
use Rattle.dx_model.specs.declared.rules.Cell.TheVariants.{Var, Ex, Lit}
use Rattle.dx_base.specs.Members.{Each}
use Rattle.dx_model.specs.declared.covers.CellMap.{CellMap}
use Rattle.dx_model.specs.declared.rules.Rule.{Rule}
use Rattle.dx_model.specs.Covers.{below}
use Rattle.dx_model.specs.Fitting.{AgreeInWidths, IsRule, conclusions_of}
use Rattle.dx_cover.specs.Covering.{covers_of}
use Rattle.dx_script.specs.declared.form.Test.{Test}
use Rattle.dx_script.specs.declared.form.Test.TheVariants.{Columns, Literal}

-- the test that a column has the text of a cell of another rule, by that rule's exported variables
abbrev pub test_for : List ℕ → ℕ → Cell → Test
test_for others own (Var y) = Columns (position_or_len (eqb y) others) own
test_for others own (Lit t) = Literal own t
test_for others own (Ex v) = Columns 0 own

-- a test for each column
abbrev pub tests_for : List ℕ → List Cell → List Test
tests_for others cells = map (λ own. test_for others own (slice_index_or cells own (Ex 0))) (below (length cells))

-- rules that agree in the widths of their conclusions, and the covers between them
pub record CoveringRules (R : List Rule) (maps : List (List (List CellMap))) : Type 0 where
  pub rules : Each R IsRule
  pub widths : AgreeInWidths (conclusions_of R)
  pub covers : maps ≡ covers_of R

-- The script of rules whose keep tables leave out what other rules cover.
use Rattle.std.specs.Prelude.{ℕ, eqb, List, map, flat_map, length}
use Rattle.std.specs.List.{filter, position_or_len}
use Rattle.dx_model.specs.declared.rules.Cell.{Cell}
use Rattle.dx_model.specs.declared.rules.Cell.TheVariants.{Var, Ex, Lit}
use Rattle.dx_model.specs.declared.rules.Rule.{Rule}
use Rattle.dx_model.specs.declared.covers.CellMap.{CellMap}
use Rattle.dx_model.specs.Rules.{exported}
use Rattle.dx_model.specs.Covers.{below, before, cell_under, rule_at, used_maps}
use Rattle.dx_schema.specs.Names.{TableNames}
use Rattle.dx_funcs.specs.declared.conversion.Conversion.{Conversion}
use Rattle.dx_script.specs.declared.form.Test.{Test}
use Rattle.dx_script.specs.declared.form.Test.TheVariants.{Columns, Literal as Same}
use Rattle.dx_script.specs.declared.form.Unless.{Unless}
use Rattle.dx_script.specs.declared.form.Step.{Step}
use Rattle.dx_script.specs.Generated.{script_with}

-- the test that variable x of rule i has the text of the cell of rule j that it meets;
-- it never meets an existential one
abbrev pub test_of : Rule → Rule → ℕ → Cell → Test
test_of i j x (Var y) = Columns (position_or_len (eqb y) (exported j)) (position_or_len (eqb x) (exported i))
test_of i j x (Lit t) = Same (position_or_len (eqb x) (exported i)) t
test_of i j x (Ex v) = Columns 0 (position_or_len (eqb x) (exported i))

-- the tests of a cell map from rule i to rule j, in order of i's exported variables
abbrev pub tests_of : Rule → Rule → CellMap → List Test
tests_of i j m = map (λ x. test_of i j x (cell_under i m (Var x))) (exported i)

-- the part of a cell map from rule number i to rule number j
abbrev pub unless_of : List Rule → ℕ → ℕ → CellMap → Unless
unless_of R i j m = record { rule = j; tests = tests_of (rule_at R i) (rule_at R j) m }

-- the rules before rule i, ascending
abbrev pub rules_before : List Rule → ℕ → List ℕ
rules_before R i = filter (λ j. before R j i) (below (length R))

-- a part for each rule before rule i and each used cell map to it, in order
abbrev pub unless_parts : List Rule → ℕ → List Unless
unless_parts R i = flat_map (λ j. map (unless_of R i j) (used_maps (rule_at R i) (rule_at R j))) (rules_before R i)

-- the rewritten script
abbrev pub rewritten_steps : List TableNames → List TableNames → List Conversion → List Rule → List Step
rewritten_steps source target list R = script_with source target list (unless_parts R) R

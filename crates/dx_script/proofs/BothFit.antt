-- The plain and the rewritten script fit.
use Rattle.std.proofs.Common.{ℕ, ◌<◌, List, [], length, inl, inr, subst}
use Rattle.std.specs.Prelude.{map}
use Rattle.dx_base.specs.Members.{◌∈◌, Each}
use Rattle.dx_base.proofs.Members.{in_map, from_map, in_flat_map, from_flat_map}
use Rattle.dx_base.proofs.Tests.{from_filter}
use Rattle.dx_model.specs.declared.rules.Cell.{Cell}
use Rattle.dx_model.specs.declared.rules.Cell.TheVariants.{Var, Ex, Lit}
use Rattle.dx_model.specs.declared.rules.Atom.{Atom}
use Rattle.dx_model.specs.declared.rules.Rule.{Rule}
use Rattle.dx_model.specs.declared.covers.CellMap.{CellMap}
use Rattle.dx_model.specs.Rules.{cells_of, exported}
use Rattle.dx_model.specs.Covers.{HasWidths, IsNoExistential, below, before, cell_under, rule_at, used_maps}
use Rattle.dx_model.proofs.Lists.{from_below}
use Rattle.dx_model.proofs.Canonical.{in_variables, from_variables}
use Rattle.dx_model.proofs.Carrying.{maps_carry}
use Rattle.dx_model.proofs.Before.{from_used, widths_at}
use Rattle.dx_schema.specs.Names.{TableNames}
use Rattle.dx_funcs.specs.declared.conversion.Conversion.{Conversion}
use Rattle.dx_script.specs.declared.form.Unless.{Unless}
use Rattle.dx_script.specs.Names.{table_numbered}
use Rattle.dx_script.specs.Rewritten.{test_of, unless_of, rules_before, unless_parts}
use Rattle.dx_script.specs.Fits.{FitsScript}
use Rattle.dx_script.specs.Generated.{plain_steps}
use Rattle.dx_script.specs.Rewritten.{rewritten_steps}
use Rattle.dx_script.proofs.RuleFacts.{NamesFit, conclusion_fits}
use Rattle.dx_script.proofs.Fitted.{position_below, TestIn, PartsFit, script_fits}

-- a test reads columns that are there
test_in : (R : List Rule) (i j x : ℕ) (e : Cell) → x ∈ exported (rule_at R i) → IsNoExistential e → e ∈ cells_of (rule_at R j).conclusion → TestIn R i j (test_of (rule_at R i) (rule_at R j) x e)
test_in R i j x (Var y) m n s =
    (position_below y (exported (rule_at R j)) (in_variables y (cells_of (rule_at R j).conclusion) s), position_below x (exported (rule_at R i)) m)
test_in R i j x (Lit t) m n s = position_below x (exported (rule_at R i)) m
test_in R i j x (Ex v) m (inl (y, e)) s = absurd (cc)
test_in R i j x (Ex v) m (inr (t, e)) s = absurd (cc)

module _ (source target : List TableNames) (list : List Conversion) (R : List Rule) (good : NamesFit source target list R) where
  width : ℕ → ℕ
  width t = length (table_numbered target t).columns

  wide : (d : Rule) → d ∈ R → HasWidths width d
  unfolding width
  wide d m a n = (conclusion_fits source target list R d good m a n).1

  tests_in : (i j : ℕ) (m : CellMap) → m ∈ used_maps (rule_at R i) (rule_at R j) → Each (unless_of R i j m).tests (TestIn R i j)
  tests_in i j m u t k =
      let c = maps_carry width (rule_at R i) (rule_at R j) m (widths_at width R wide i) (widths_at width R wide j) (from_used (rule_at R i) (rule_at R j) m u) in
      let w = from_map (λ x. test_of (rule_at R i) (rule_at R j) x (cell_under (rule_at R i) m (Var x))) (exported (rule_at R i)) k in
      let v : Var w.0 ∈ cells_of (rule_at R i).conclusion = from_variables w.0 (cells_of (rule_at R i).conclusion) w.1 in
      let p = from_flat_map (λ (a : Atom). a.cells) (rule_at R i).conclusion v in
      let s = in_flat_map (λ (a : Atom). a.cells) (c.atoms p.0 p.1) (in_map (cell_under (rule_at R i) m) p.2) in
      subst (TestIn R i j) w.2 (test_in R i j w.0 (cell_under (rule_at R i) m (Var w.0)) w.1 (c.known w.0 v) s)

  parts_fit : PartsFit R (unless_parts R)
  parts_fit r h u m =
      let a = from_flat_map (λ j. map (unless_of R r j) (used_maps (rule_at R r) (rule_at R j))) (rules_before R r) m in
      let f = from_filter (λ j. before R j r) (below (length R)) a.1 in
      let d = from_map (unless_of R r a.0) (used_maps (rule_at R r) (rule_at R a.0)) a.2 in
      subst (λ (z : Unless). (z.rule < length R) × Each z.tests (TestIn R r z.rule)) d.2 (from_below a.0 (length R) f.0, tests_in r a.0 d.0 d.1)

pub generated_fit : (source target : List TableNames) (list : List Conversion) (R : List Rule) → NamesFit source target list R
    → FitsScript source target list (plain_steps source target list R) × FitsScript source target list (rewritten_steps source target list R)
generated_fit source target list R good = (
  script_fits source target list (λ r. []) R good (λ r h u m. elim m [ ]),
  script_fits source target list _ R good (parts_fit source target list R good),
)

-- The rewritten script means the uncovered part.
use Rattle.std.proofs.Common.{◌≡◌, ℕ, ◌<◌, eqb, List, [], inl, inr, sym, ◌∙◌, ap, subst, length, arith, None}
use Rattle.std.specs.Prelude.{map, ◌↔◌}
use Rattle.std.specs.List.{filter, position_or_len}
use Rattle.dx_model.specs.declared.values.Value.TheVariants.{Const}
use Rattle.dx_model.specs.declared.facts.Fact.{Fact}
use Rattle.dx_model.specs.declared.rules.Cell.{Cell}
use Rattle.dx_model.specs.declared.rules.Cell.TheVariants.{Var, Ex, Lit}
use Rattle.dx_model.specs.declared.rules.Atom.{Atom}
use Rattle.dx_model.specs.declared.rules.Rule.{Rule}
use Rattle.dx_model.specs.declared.covers.CellMap.{CellMap}
use Rattle.dx_base.specs.Members.{◌∈◌, ◌⊆◌}
use Rattle.dx_model.specs.Rules.{cells_of, exported, text_of}
use Rattle.dx_model.specs.Covers.{rule_at, tuple_at, cell_value_at, cell_under, uncovered}
use Rattle.dx_base.proofs.Members.{in_map, from_map, in_flat_map, from_flat_map}
use Rattle.dx_model.proofs.Canonical.{in_variables, from_variables}
use Rattle.dx_model.proofs.CoverFold.{in_uncovered, from_uncovered}
use Rattle.dx_model.specs.Covers.{below, before, used_maps, least_cover}
use Rattle.dx_model.specs.Covers.{HasWidths, IsNoExistential}
use Rattle.dx_model.proofs.Lists.{in_filter, in_below, from_below}
use Rattle.dx_model.proofs.Carrying.{maps_carry}
use Rattle.dx_model.proofs.Before.{from_used, none_exactly, widths_at}
use Rattle.dx_script.specs.declared.form.Test.{Test}
use Rattle.dx_script.specs.declared.form.Unless.{Unless}
use Rattle.dx_schema.specs.Names.{TableNames}
use Rattle.dx_model.specs.Values.{Rows}
use Rattle.dx_script.specs.Names.{table_numbered}
use Rattle.dx_script.specs.Meaning.{match_table, in_column, MakesTrue, HasNoPartner}
use Rattle.dx_script.specs.Rewritten.{test_of, unless_of, unless_parts}
use Rattle.dx_script.specs.Laws.{IsLeftPlace}
use Rattle.dx_model.specs.Values.{Conversions}
use Rattle.dx_model.specs.Rules.{AreRows}
use Rattle.dx_funcs.specs.declared.conversion.Conversion.{Conversion}
use Rattle.dx_funcs.specs.Names.{call_named}
use Rattle.dx_script.specs.Meaning.{Means}
use Rattle.dx_script.specs.Rewritten.{rewritten_steps}
use Rattle.dx_base.proofs.Members.{in_at}
use Rattle.dx_base.proofs.Tests.{from_filter}
use Rattle.dx_script.proofs.RuleFacts.{NamesFit, WidthsFit, conclusion_fits}
use Rattle.dx_script.proofs.MatchTables.{index_of}
use Rattle.dx_script.proofs.Steps.{rows_at, column_text, script_means_left}

module _ (width : ℕ → ℕ) (R : List Rule) (tables : Rows) (widths : (d : Rule) → d ∈ R → HasWidths width d) (same_length : length tables ≡ length R) where
  -- a test holds exactly where the values are the same
  test_tells : (i k j l : ℕ) (x : ℕ) (e : Cell) → x ∈ exported (rule_at R i) → IsNoExistential e → e ∈ cells_of (rule_at R j).conclusion
      → MakesTrue (tuple_at tables i k) (tuple_at tables j l) (test_of (rule_at R i) (rule_at R j) x e) ↔ (cell_value_at R tables i k (Var x) ≡ cell_value_at R tables j l e)
  test_tells i k j l x (Var y) m n s =
      let a : in_column (tuple_at tables i k) (position_or_len (eqb x) (exported (rule_at R i))) ≡ text_of (exported (rule_at R i)) (tuple_at tables i k) x =
      column_text x (exported (rule_at R i)) (tuple_at tables i k) m in
      let b : in_column (tuple_at tables j l) (position_or_len (eqb y) (exported (rule_at R j))) ≡ text_of (exported (rule_at R j)) (tuple_at tables j l) y =
      column_text y (exported (rule_at R j)) (tuple_at tables j l) (in_variables y (cells_of (rule_at R j).conclusion) s) in (
        (λ h. ap Const (sym a ∙ (sym h ∙ b))),
        (λ h. let c : text_of (exported (rule_at R i)) (tuple_at tables i k) x ≡ text_of (exported (rule_at R j)) (tuple_at tables j l) y = cc in b ∙ (sym c ∙ sym a)),
      )
  test_tells i k j l x (Lit t) m n s =
      let a : in_column (tuple_at tables i k) (position_or_len (eqb x) (exported (rule_at R i))) ≡ text_of (exported (rule_at R i)) (tuple_at tables i k) x =
      column_text x (exported (rule_at R i)) (tuple_at tables i k) m in (
        (λ h. ap Const (sym a ∙ h)),
        (λ h. let c : text_of (exported (rule_at R i)) (tuple_at tables i k) x ≡ t = cc in a ∙ c),
      )
  test_tells i k j l x (Ex v) m (inl (y, e)) s = absurd (cc)
  test_tells i k j l x (Ex v) m (inr (t, e)) s = absurd (cc)

  -- the same under a used cell map
  map_tells : (i k j l : ℕ) (m : CellMap) → m ∈ used_maps (rule_at R i) (rule_at R j) → (x : ℕ) → x ∈ exported (rule_at R i)
      → MakesTrue (tuple_at tables i k) (tuple_at tables j l) (test_of (rule_at R i) (rule_at R j) x (cell_under (rule_at R i) m (Var x)))
      ↔ (cell_value_at R tables i k (Var x) ≡ cell_value_at R tables j l (cell_under (rule_at R i) m (Var x)))
  map_tells i k j l m u x n =
      let c = maps_carry width (rule_at R i) (rule_at R j) m (widths_at width R widths i) (widths_at width R widths j) (from_used (rule_at R i) (rule_at R j) m u) in
      let v : Var x ∈ cells_of (rule_at R i).conclusion = from_variables x (cells_of (rule_at R i).conclusion) n in
      let p = from_flat_map (λ (a : Atom). a.cells) (rule_at R i).conclusion v in
      test_tells i k j l x (cell_under (rule_at R i) m (Var x)) n (c.known x v)
      (in_flat_map (λ (a : Atom). a.cells) (c.atoms p.0 p.1) (in_map (cell_under (rule_at R i) m) p.2))

  -- a tuple has no partner exactly where nothing covers its place
  no_partner : (i k : ℕ) → HasNoPartner tables (unless_parts R i) (tuple_at tables i k) ↔ (least_cover R tables i k ≡ None)
  no_partner i k = (
    (λ h. (none_exactly R tables i k same_length).1 (λ c b m p e.
        h (unless_of R i c.rule c.cells)
        (in_flat_map (λ j. map (unless_of R i j) (used_maps (rule_at R i) (rule_at R j))) (in_filter (λ j. before R j i) (below (length R)) b (in_below c.rule (length R) p.0))
        (in_map (unless_of R i c.rule) m))
        (tuple_at tables c.rule c.row) (in_at (match_table tables c.rule) c.row [] p.2)
        (λ t n.
        let w = from_map (λ x. test_of (rule_at R i) (rule_at R c.rule) x (cell_under (rule_at R i) c.cells (Var x))) (exported (rule_at R i)) n in
        subst (λ z. MakesTrue (tuple_at tables i k) (tuple_at tables c.rule c.row) z) w.2 ((map_tells i k c.rule c.row c.cells m w.0 w.1).1 (e w.0 w.1))))),
    (λ e u n other o h.
        let a = from_flat_map (λ j. map (unless_of R i j) (used_maps (rule_at R i) (rule_at R j))) (filter (λ j. before R j i) (below (length R))) n in
        let f = from_filter (λ j. before R j i) (below (length R)) a.1 in
        let d = from_map (unless_of R i a.0) (used_maps (rule_at R i) (rule_at R a.0)) a.2 in
        let less : a.0 < length R = from_below a.0 (length R) f.0 in
        let inside : other ∈ match_table tables a.0 = subst (λ (z : Unless). other ∈ match_table tables z.rule) (sym d.2) o in
        let met : (t : Test) → t ∈ map (λ x. test_of (rule_at R i) (rule_at R a.0) x (cell_under (rule_at R i) d.0 (Var x))) (exported (rule_at R i)) → MakesTrue (tuple_at tables i k) other t =
        subst (λ (z : Unless). (t : Test) → t ∈ z.tests → MakesTrue (tuple_at tables i k) other t) (sym d.2) h in
        let p = index_of (match_table tables a.0) other [] inside in
        (none_exactly R tables i k same_length).0 e (record { rule = a.0; cells = d.0; row = p.0 }) f.1 d.1 (less, omega (arith, less, same_length), p.1)
        (λ x m. (map_tells i k a.0 p.0 d.0 d.1 x m).0
        (subst (λ z. MakesTrue (tuple_at tables i k) z (test_of (rule_at R i) (rule_at R a.0) x (cell_under (rule_at R i) d.0 (Var x)))) (sym p.2)
        (met _ (in_map (λ x. test_of (rule_at R i) (rule_at R a.0) x (cell_under (rule_at R i) d.0 (Var x))) m))))),
  )

  uncovered_of : (f : Fact) → IsLeftPlace (unless_parts R) R tables f → f ∈ uncovered (least_cover R tables) 0 R tables
  uncovered_of f s = in_uncovered (least_cover R tables) 0 R tables s.rule s.rule s.place (omega arith) s.is_place ((no_partner s.rule s.place).0 s.no_partner) f s.fact

  left_in : (f : Fact) → f ∈ uncovered (least_cover R tables) 0 R tables → IsLeftPlace (unless_parts R) R tables f
  left_in f m =
      let w = from_uncovered (least_cover R tables) 0 R tables f m in
      let q : w.0 ≡ w.1 = omega (arith, w.3) in
      record { rule = w.1; place = w.2; is_place = w.4; no_partner = (no_partner w.1 w.2).1 (rw q at w.5); fact = rw q at w.6 }

pub rewritten_means_uncovered : (source target : List TableNames) (convert : Conversions) (list : List Conversion) (R : List Rule) (I : List Fact) (tables : Rows) (K : List Fact)
    → NamesFit source target list R → WidthsFit source I
    → Means source target (call_named convert list) (rewritten_steps source target list R) I tables K
    ↔ (AreRows convert R I tables × (K ⊆ uncovered (least_cover R tables) 0 R tables) × (uncovered (least_cover R tables) 0 R tables ⊆ K))
rewritten_means_uncovered source target convert list R I tables K good_rules widths =
    let s = script_means_left source target convert list (unless_parts R) R I tables K good_rules widths in
    let width : ℕ → ℕ = λ t. length (table_numbered target t).columns in
    let good : (d : Rule) → d ∈ R → HasWidths width d = λ d m a n. (conclusion_fits source target list R d good_rules m a n).1 in (
      (λ m.
          let w = s.0 m in
          let l : length tables ≡ length R = (rows_at convert R I tables w.0).0 in
          (w.0, (λ f k. uncovered_of width R tables good l f ((w.1 f).0 k)), (λ f k. (w.1 f).1 (left_in width R tables good l f k)))),
      (λ w.
          let l : length tables ≡ length R = (rows_at convert R I tables w.0).0 in
          s.1 (w.0, λ f. ((λ k. left_in width R tables good l f (w.1 f k)), (λ k. w.2 f (uncovered_of width R tables good l f k))))),
    )

-- Rows that pass conditions: of instances that agree, if the columns that the conditions name are read, they agree too.
use Rattle.std.proofs.Common.{◌≡◌, ℕ, zero, suc, Bool, true, false, List, [], ◌∷◌, get_or, map, refl, sym, ◌∙◌, ap, subst}
use Rattle.std.specs.Prelude.{◌==◌, if◌then◌else◌, slice_get}
use Rattle.std.specs.List.{list_all}
use Rattle.std.proofs.lemmas.Bool.{eqb-true}
use Rattle.dx_base.specs.Members.{◌∈◌, ◌⊆◌}
use Rattle.dx_base.proofs.Members.{from_map, in_map}
use Rattle.dx_base.proofs.Tests.{from_all, from_filter, to_all, to_filter}
use Rattle.dx_model.specs.declared.values.Value.{Value}
use Rattle.dx_model.specs.declared.facts.Fact.{Fact}
use Rattle.dx_lines.specs.declared.line.Condition.{Condition}
use Rattle.dx_used.specs.Used.{Marks, blanked, fact_blanked, marks_at}
use Rattle.dx_used.specs.Named.{ReadNamed}
use Rattle.dx_used.specs.Passing.{Passes, fact_passes, passing, value_passes}
use Rattle.dx_used.specs.Laws.{SamePassing}
use Rattle.dx_used.proofs.MarkFacts.{true_false}

-- ---- a column that is read stands as it was

value_stays : (used : List Bool) (row : List Value) (i : ℕ) → get_or used i true ≡ true → slice_get (blanked used row) i ≡ slice_get row i
value_stays [] row i e = refl
value_stays (u ∷ used) [] i e = refl
value_stays (true ∷ used) (v ∷ row) zero e = refl
value_stays (false ∷ used) (v ∷ row) zero e = true_false (sym e)
value_stays (true ∷ used) (v ∷ row) (suc i) e = value_stays used row i e
value_stays (false ∷ used) (v ∷ row) (suc i) e = value_stays used row i e

-- so a condition on it has the same answer
passes_blanked : (passes : Passes) (used : Marks) (f : Fact) (c : Condition) → get_or (marks_at used c.place.table) c.place.column true ≡ true
    → fact_passes passes (fact_blanked used f) c ≡ fact_passes passes f c
passes_blanked passes used f c e = if_so (f.table == c.place.table) _ _ true (λ t. ap (value_passes passes c.code)
    (value_stays (marks_at used f.table) f.row c.place.column
    (subst (λ n. get_or (marks_at used n) c.place.column true ≡ true) (sym (eqb-true f.table c.place.table t)) e)))
  where
    if_so : (b x y z : Bool) → (b ≡ true → x ≡ y) → (if b then x else z) ≡ (if b then y else z)
    if_so true x y z h = h refl
    if_so false x y z h = refl

-- ---- facts

one_agrees : (passes : Passes) (used : Marks) (conditions : List Condition) (f g : Fact) → ReadNamed used conditions → fact_blanked used f ≡ fact_blanked used g
    → list_all (fact_passes passes f) conditions ≡ true → list_all (fact_passes passes g) conditions ≡ true
one_agrees passes used conditions f g named same all = to_all (fact_passes passes g) conditions (λ c m.
    sym (passes_blanked passes used g c (named c m)) ∙ sym (ap (λ (h : Fact). fact_passes passes h c) same)
    ∙ passes_blanked passes used f c (named c m) ∙ from_all (fact_passes passes f) conditions all m)

all_agree : (passes : Passes) (used : Marks) (conditions : List Condition) (I J : List Fact) → ReadNamed used conditions → map (fact_blanked used) I ⊆ map (fact_blanked used) J
    → map (fact_blanked used) (passing passes conditions I) ⊆ map (fact_blanked used) (passing passes conditions J)
all_agree passes used conditions I J named within x m =
    let (f, in_passing, is) = from_map (fact_blanked used) (passing passes conditions I) m in
    let (in_I, passed) = from_filter (λ (h : Fact). list_all (fact_passes passes h) conditions) I in_passing in
    let (g, in_J, same) = from_map (fact_blanked used) J (within (fact_blanked used f) (in_map (fact_blanked used) in_I)) in
    subst (λ y. y ∈ map (fact_blanked used) (passing passes conditions J)) (same ∙ is)
    (in_map (fact_blanked used) (to_filter (λ (h : Fact). list_all (fact_passes passes h) conditions) J in_J (one_agrees passes used conditions f g named (sym same) passed)))

pub same_passing : SamePassing
same_passing passes used conditions I J named agree =
    (all_agree passes used conditions I J named agree.0, all_agree passes used conditions J I named agree.1)

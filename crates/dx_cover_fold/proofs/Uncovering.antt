-- The cover fold makes the uncovered part of the canonical instance.
use Rattle.std.proofs.Common.{◌≡◌, ℕ, List, [], ◌∷◌, refl, ◌∙◌, ap, subst, arith}
use Rattle.std.specs.Prelude.{map}
use Rattle.dx_base.specs.Members.{◌∈◌, here, there}
use Rattle.dx_base.proofs.Members.{from_map, in_flat_map, same_equal, same_trans}
use Rattle.dx_base.proofs.Tests.{map_same}
use Rattle.dx_model.specs.declared.values.NullId.{NullId}
use Rattle.dx_model.specs.declared.values.Value.{Value}
use Rattle.dx_model.specs.declared.values.Value.TheVariants.{Null}
use Rattle.dx_model.specs.declared.facts.Fact.{Fact}
use Rattle.dx_model.specs.declared.rules.Cell.{Cell}
use Rattle.dx_model.specs.declared.rules.Cell.TheVariants.{Var, Ex, Lit}
use Rattle.dx_model.specs.declared.rules.Atom.{Atom}
use Rattle.dx_model.specs.declared.rules.Rule.{Rule}
use Rattle.dx_model.specs.Values.{Rows}
use Rattle.dx_model.specs.Instances.{fact_moved, given, moved}
use Rattle.dx_model.specs.Rules.{at_place, canonical, cell_value, cells_of, exported, fact_of_atom, text_of}
use Rattle.dx_model.specs.Covers.{IsPlace, cover_fold, rule_at, tuple_at}
use Rattle.dx_model.proofs.Before.{cover_fold_uncovers}
use Rattle.dx_model.proofs.CoverFold.{from_canonical}
use Rattle.dx_model.proofs.Carrying.{below_existential}
use Rattle.dx_instance.specs.NullMaps.{ByNull, pairs_of}
use Rattle.dx_instance.proofs.AfterFacts.{pairs_give}
use Rattle.dx_cover_fold.specs.Folding.{IsCoverFold}
use Rattle.dx_cover_fold.specs.Laws.{FoldUncovers}

module _ (R : List Rule) (rows : Rows) (m : ByNull) (fold : IsCoverFold R rows m) where
  F : NullId → Value
  F = given (pairs_of m)

  -- what the cells of a conclusion say at a place becomes the same
  cell_same : (i k : ℕ) → IsPlace R rows i k → (c : Cell) → c ∈ cells_of (rule_at R i).conclusion → (texts : ℕ → List ℕ)
      → moved F (cell_value texts (λ v. Null (record { rule = i; var = v; row = k })) c) ≡ moved (cover_fold R rows) (cell_value texts (λ v. Null (record { rule = i; var = v; row = k })) c)
  unfolding F
  cell_same i k p (Var x) h texts = refl
  cell_same i k p (Lit t) h texts = refl
  cell_same i k p (Ex v) h texts =
      pairs_give m (record { rule = i; var = v; row = k }) ∙ fold.folds (record { rule = i; var = v; row = k }) (record { place = p; variable = below_existential v (cells_of (rule_at R i).conclusion) h })

  fact_same : (f : Fact) → f ∈ canonical 0 R rows → fact_moved F f ≡ fact_moved (cover_fold R rows) f
  fact_same f h =
      let w = from_canonical 0 R rows f h in
      let q : w.0 ≡ w.1 = omega (arith, w.3) in
      let at : f ∈ at_place w.1 (rule_at R w.1) w.2 (tuple_at rows w.1 w.2) = rw q at w.5 in
      let a = from_map (fact_of_atom (text_of (exported (rule_at R w.1)) (tuple_at rows w.1 w.2)) (λ v. Null (record { rule = w.1; var = v; row = w.2 }))) (rule_at R w.1).conclusion at in
      subst (λ (g : Fact). fact_moved F g ≡ fact_moved (cover_fold R rows) g) a.2 (row_same w.1 w.2 w.4 a.0 a.1)
    where
      mapped : (g h : Value → Value) (s : Cell → Value) (cs : List Cell) → ((c : Cell) → c ∈ cs → g (s c) ≡ h (s c)) → map g (map s cs) ≡ map h (map s cs)
      mapped g h s [] e = refl
      mapped g h s (c ∷ cs) e = let a = e c (here refl) in let r = mapped g h s cs (λ d n. e d (there n)) in cc

      row_same : (i k : ℕ) → IsPlace R rows i k → (a : Atom) → a ∈ (rule_at R i).conclusion
          → fact_moved F (fact_of_atom (text_of (exported (rule_at R i)) (tuple_at rows i k)) (λ v. Null (record { rule = i; var = v; row = k })) a)
          ≡ fact_moved (cover_fold R rows) (fact_of_atom (text_of (exported (rule_at R i)) (tuple_at rows i k)) (λ v. Null (record { rule = i; var = v; row = k })) a)
      row_same i k p a n = ap (λ (r : List Value). record { table = a.table; row = r })
          (mapped (moved F) (moved (cover_fold R rows)) (cell_value (text_of (exported (rule_at R i)) (tuple_at rows i k)) (λ v. Null (record { rule = i; var = v; row = k }))) a.cells
          (λ c h. cell_same i k p c (in_flat_map (λ (b : Atom). b.cells) n h) (text_of (exported (rule_at R i)) (tuple_at rows i k))))

pub fold_uncovers : FoldUncovers
unfolding F
fold_uncovers width R rows m widths one fold =
    same_trans (same_equal (map_same (fact_moved (given (pairs_of m))) (fact_moved (cover_fold R rows)) (canonical 0 R rows) (fact_same R rows m fold))) (cover_fold_uncovers width R rows widths one)

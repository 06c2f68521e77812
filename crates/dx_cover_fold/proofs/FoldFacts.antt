-- The cover fold, null by null.
use Rattle.std.proofs.Common.{◌≡◌, ℕ, zero, suc, ◌+◌, ◌<◌, ◌≤◌, true, List, [], ◌∷◌, ◌++◌, Option, Some, None, length, get_or, take, refl, sym, ◌∙◌, ap, inl, inr, arith}
use Rattle.std.specs.Prelude.{◌↔◌, ◌⊎◌}
use Rattle.std.specs.FinMap as finite
use Rattle.std.proofs.lemmas.Bool.{cases_Bool, true≢false}
use Rattle.std.proofs.lemmas.List.{get_or_default, take_more, take_all}
use Rattle.dx_base.specs.Members.{◌∈◌, here, there}
use Rattle.dx_base.proofs.Members.{from_append, in_left, in_right}
use Rattle.dx_model.specs.declared.values.NullId.{NullId}
use Rattle.dx_model.specs.declared.values.Value.{Value}
use Rattle.dx_model.specs.declared.values.Value.TheVariants.{Const, Null}
use Rattle.dx_model.specs.declared.rules.Cell.{Cell}
use Rattle.dx_model.specs.declared.rules.Cell.TheVariants.{Var, Ex, Lit}
use Rattle.dx_model.specs.declared.rules.Rule.{Rule}
use Rattle.dx_model.specs.declared.covers.Cover.{Cover}
use Rattle.dx_model.specs.Values.{Rows}
use Rattle.dx_model.specs.Covers.{IsPlace, cell_under, cover_fold, folded, least_cover, rule_at, cell_value_at, value_under}
use Rattle.dx_model.proofs.Before.{from_least}
use Rattle.dx_instance.specs.NullMaps.{ByNull, becomes, or_itself, with_value}
use Rattle.dx_model.specs.Values.{null_cmp}
use Rattle.dx_model.specs.Instances.{same_null}
use Rattle.dx_model.proofs.Maps.{same_null-refl, same_null-true}
use Rattle.dx_instance.proofs.AfterFacts.{becomes_set}
use Rattle.std.specs.Option.{option_map}
use Rattle.dx_cover_fold.specs.declared.found.Found.{Found}
use Rattle.dx_cover_fold.specs.Found.{AllLeast, cover_of}
use Rattle.dx_cover_fold.specs.Folding.{IsCoverFold, IsPlaceNull}

-- these nulls are folded, and all others stay
pub record FoldsSome (R : List Rule) (rows : Rows) (nulls : List NullId) (m : ByNull) : Type 0 where
  pub folds : (n : NullId) → n ∈ nulls → becomes m n ≡ cover_fold R rows n
  pub stays : (n : NullId) → ¬ (n ∈ nulls) → becomes m n ≡ Null n

pub none_folded : (R : List Rule) (rows : Rows) → FoldsSome R rows [] finite.empty
none_folded R rows = record { folds = λ n m. elim m [ ]; stays = λ n h. ap (or_itself n) (finite.get-empty null_cmp n) }

-- one null more
pub one_folded : (R : List Rule) (rows : Rows) (nulls : List NullId) (i : ℕ) (k : NullId) (v : Value) (m new : ByNull) → i < length nulls → k ≡ get_or nulls i k → v ≡ cover_fold R rows k → new ≡ with_value m k v
    → FoldsSome R rows (take i nulls) m → FoldsSome R rows (take (i + 1) nulls) new
one_folded R rows nulls i k v m new lt is e put f = rw (take_more nulls i k lt, ← is, put) (record { folds = folds; stays = stays })
  where
    same : (n : NullId) → same_null k n ≡ true → n ≡ k
    same n t = sym (same_null-true k n t)

    at : (n : NullId) → n ∈ (take i nulls ++ k ∷ []) → (n ∈ take i nulls) ⊎ (n ≡ k)
    at n h = elim (from_append (take i nulls) h) [ inl l ↦ inl l | inr r ↦ inr (last r) ]
      where
        last : n ∈ (k ∷ []) → n ≡ k
        last (here d) = sym d
        last (there d) = elim d [ ]

    folds : (n : NullId) → n ∈ (take i nulls ++ k ∷ []) → becomes (with_value m k v) n ≡ cover_fold R rows n
    folds n h = becomes_set m k v n ∙ elim (cases_Bool (same_null k n)) [
      | inl t ↦ rw t (e ∙ ap (cover_fold R rows) (sym (same n t)))
      | inr d ↦ rw d (f.folds n (elim (at n h) [ inl l ↦ l | inr q ↦ absurd (true≢false (sym (rw q (same_null-refl k)) ∙ d)) ]))
    ]

    stays : (n : NullId) → ¬ (n ∈ (take i nulls ++ k ∷ [])) → becomes (with_value m k v) n ≡ Null n
    stays n h = becomes_set m k v n ∙ elim (cases_Bool (same_null k n)) [
      | inl t ↦ absurd (h (in_right (take i nulls) (here (sym (same n t)))))
      | inr d ↦ rw d (f.stays n (λ l. h (in_left (k ∷ []) l)))
    ]

pub all_folded : (R : List Rule) (rows : Rows) (nulls : List NullId) (i : ℕ) (m : ByNull) → length nulls ≤ i → ((n : NullId) → (n ∈ nulls) ↔ IsPlaceNull R rows n) → FoldsSome R rows (take i nulls) m → IsCoverFold R rows m
all_folded R rows nulls i m past t f = record {
  folds = λ n p. f.folds n (rw (take_all i nulls past) ((t n).1 p));
  stays = λ n p. f.stays n (λ k. p ((t n).0 (rw (take_all i nulls past) at k)));
}

-- ---- one step of the fold

step_none : (R : List Rule) (rows : Rows) (k : ℕ) (n : NullId) → least_cover R rows n.rule n.row ≡ None → folded R rows (least_cover R rows) k n ≡ Null n
step_none R rows zero n e = refl
step_none R rows (suc k) n e = rw (e, folded) refl

-- a null in what a cell says is one of the place
null_there : (R : List Rule) (rows : Rows) (j l : ℕ) (c : Cell) (n : NullId) → cell_value_at R rows j l c ≡ Null n → (n.rule ≡ j) × (n.row ≡ l)
null_there R rows j l (Var x) n e = absurd (cc)
null_there R rows j l (Ex v) n e = let d : record { rule = j; var = v; row = l } ≡ n = cc in (ap (λ (m : NullId). m.rule) (sym d), ap (λ (m : NullId). m.row) (sym d))
null_there R rows j l (Lit t) n e = absurd (cc)

module _ (R : List Rule) (rows : Rows) (one : length rows ≡ length R) where
  abbrev pub fold : ℕ → NullId → Value
  fold k n = folded R rows (least_cover R rows) k n

  -- a place that nothing covers
  pub fold_ends : (k : ℕ) (n : NullId) (all : Value) → least_cover R rows n.rule n.row ≡ None → all ≡ fold k n → all ≡ Null n
  fold_ends k n all e h = h ∙ step_none R rows k n e

  -- a value that is a constant
  pub fold_constant : (k : ℕ) (n : NullId) (c : Cover) (t : List ℕ) (all : Value) → least_cover R rows n.rule n.row ≡ Some c → value_under R rows n.rule c (Ex n.var) ≡ Const t → all ≡ fold (suc k) n → all ≡ Const t
  fold_constant k n c t all e v h = h ∙ step e v
    where
      step : least_cover R rows n.rule n.row ≡ Some c → value_under R rows n.rule c (Ex n.var) ≡ Const t → fold (suc k) n ≡ Const t
      step e v = rw (e, folded, v) refl

  -- a value that is a null
  pub fold_goes : (k : ℕ) (n next : NullId) (c : Cover) (all : Value) → least_cover R rows n.rule n.row ≡ Some c → value_under R rows n.rule c (Ex n.var) ≡ Null next → all ≡ fold (suc k) n
      → IsPlace R rows next.rule next.row × (all ≡ fold k next)
  fold_goes k n next c all e v h =
      let p = null_there R rows c.rule c.row (cell_of c) next v in
      let w = from_least R rows n.rule n.row c e in
      let place : IsPlace R rows c.rule c.row = (w.1, omega (arith, w.1, one), w.3) in
      (rw (p.0, p.1) place, h ∙ rw (e, folded, v) refl)
    where
      cell_of : Cover → Cell
      cell_of c = cell_under (rule_at R n.rule) c.cells (Ex n.var)

  -- the place that a cover names
  pub cover_place : (i k : ℕ) (c : Cover) → least_cover R rows i k ≡ Some c → IsPlace R rows c.rule c.row
  cover_place i k c e = let w = from_least R rows i k c e in (w.1, omega (arith, w.1, one), w.3)

-- ---- least covers by their numbers

pub least_is : (R : List Rule) (rows : Rows) (L : List (List (Option Found))) (i k : ℕ) (item xs : List (Option Found)) → AllLeast R rows L (length R) → IsPlace R rows i k → item ≡ get_or L i item → xs ≡ item
    → least_cover R rows i k ≡ option_map (cover_of R i) (get_or xs k None)
least_is R rows L i k item xs a p is x =
    let l : i < length L = omega (arith, a.many, p.0) in
    let e : xs ≡ get_or L i [] = x ∙ is ∙ get_or_default L i item [] l in
    let w = a.each i p.0 in
    rw e (sym (w.each k (omega (arith, w.many, p.2))))

pub none_there : (o : Option Found) → ((x : Found) → ¬ (o ≡ Some x)) → o ≡ None
none_there None h = refl
none_there (Some x) h = absurd (h x refl)

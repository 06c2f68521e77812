-- Determinations that repeat one that is there.
use Rattle.std.proofs.Common.{◌≡◌, ℕ, ◌<◌, true, cond, Some, None, List, [], ◌∷◌, ◌++◌, inl, inr, refl, sym, ◌∙◌, length, arith, nat_eq}
use Rattle.std.specs.Cmp.Lexicographic.{pointwise}
use Rattle.std.proofs.lemmas.Bool.{cases_Bool}
use Rattle.dx_base.specs.Members.{◌⊆◌}
use Rattle.dx_chase.specs.Demands.{Demand}
use Rattle.dx_chase.specs.Index.{found}
use Rattle.dx_chase.specs.Repeats.{IndexesDemands, IsAskedAt, columns_listed}
use Rattle.dx_chase.specs.Rows.{AddsRows, determination_columns, determination_count}
use Rattle.dx_chase.specs.Tables.{ChaseTable}
use Rattle.dx_chase.specs.declared.index.Index.{Index}
use Rattle.dx_chase.specs.declared.tables.Columns.{Columns}
use Rattle.dx_chase.proofs.RowDemands.{asked_stays}
use Rattle.dx_chase.proofs.Settles.{same_lists}

-- lists that begin with as many have the same begin and the same rest
left_same : (xs ys us vs : List ℕ) → length xs ≡ length ys → xs ++ us ≡ ys ++ vs → (xs ≡ ys) × (us ≡ vs)
left_same [] [] us vs n e = (refl, e)
left_same [] (y ∷ ys) us vs n e = absurd (omega (arith, n))
left_same (x ∷ xs) [] us vs n e = absurd (omega (arith, n))
left_same (x ∷ xs) (y ∷ ys) us vs n e =
    let h : x ≡ y = cc in
    let t : xs ++ us ≡ ys ++ vs = cc in
    let r = left_same xs ys us vs (omega (arith, n)) t in
    (λ j. h j ∷ r.0 j, r.1)

-- columns that are the same as lists are the same
columns_same : (a b : Columns) → columns_listed a ≡ columns_listed b → a ≡ b
columns_same a b e =
    let n : length a.left ≡ length b.left = cc in
    let t : a.left ++ a.right ≡ b.left ++ b.right = cc in
    let r = left_same a.left b.left a.right b.right n t in
    λ j. record { left = r.0 j; right = r.1 j }

module _ (tables : List ChaseTable) (t : ℕ) where
  -- none is there yet
  pub there_none : (ds : List Demand) (index : Index) → ((k : List ℕ) → found index k ≡ None) → IndexesDemands tables t ds index
  there_none ds index n k c e = let q : None ≡ Some c = sym (n k) ∙ e in absurd (differ q)
    where
      differ : {c : ℕ} → None ≡ Some c → ⊥
      differ q = cc

  -- what is there stays
  pub there_stays : (old new : List Demand) (index : Index) → old ⊆ new → IndexesDemands tables t old index → IndexesDemands tables t new index
  there_stays old new index s A k c e =
      let I = A k c e in
      record { inside = I.inside; is = I.is; asked = asked_stays tables t c old new s I.asked }

  -- of a determination all is asked if one with the same columns is there
  pub there_asks : (ds : List Demand) (index : Index) (c e : ℕ) (columns : List ℕ) → columns ≡ columns_listed (determination_columns tables t c)
      → IndexesDemands tables t ds index → found index columns ≡ Some e → AddsRows tables t c ds ds
  there_asks ds index c e columns q A f =
      let I : IsAskedAt tables t ds columns e = A columns e f in
      let s : determination_columns tables t e ≡ determination_columns tables t c = columns_same _ _ (I.is ∙ q) in
      record {
        all = λ u d w h k. rw (w.0, w.1) (record { by = I.asked.by; inside = I.asked.inside; same = I.asked.same ∙ s; all = I.asked.all });
        stays = λ x m. m;
        either = λ x m. inl m;
      }

  -- one more is there
  pub there_more : (old new : List Demand) (index after : Index) (c : ℕ) (columns : List ℕ) → t < length tables → c < determination_count tables t
      → columns ≡ columns_listed (determination_columns tables t c) → IndexesDemands tables t old index → AddsRows tables t c old new
      → ((k : List ℕ) → found after k ≡ cond (pointwise nat_eq columns k) (Some c) (found index k)) → IndexesDemands tables t new after
  there_more old new index after c columns h l q A B sets k e f = elim (cases_Bool (pointwise nat_eq columns k)) [
    | inl y ↦ here y
    | inr n ↦ there_stays old new index B.stays A k e (sym (rw n at (sets k)) ∙ f)
  ]
    where
      here : pointwise nat_eq columns k ≡ true → IsAskedAt tables t new k e
      here y =
          let p : Some c ≡ Some e = sym (rw y at (sets k)) ∙ f in
          let r : c ≡ e = cc in
          rw (← r) (record { inside = l; is = sym q ∙ same_lists columns k y; asked = B.all t c (refl, refl) h l })

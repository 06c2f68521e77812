-- A script has one meaning.
use Rattle.std.proofs.Common.{◌≡◌, ℕ, suc, ◌<◌, ◌≤◌, List, [], ◌∷◌, length, get_or, refl, sym, ◌∙◌, ap, subst, arith}
use Rattle.std.specs.Cmp.Lexicographic.{slice_cmp}
use Rattle.std.specs.Ordering.{nat_cmp, ordering_reverse}
use Rattle.std.specs.declared.cmp.Ordering.TheVariants.{Less, Greater}
use Rattle.std.proofs.lemmas.Cmp.{lists_total, nat_list_cmp_total}
use Rattle.dx_model.specs.declared.facts.Fact.{Fact}
use Rattle.dx_base.specs.Members.{◌∈◌, here, there}
use Rattle.dx_model.specs.Rules.{TuplesAscend}
use Rattle.dx_schema.specs.Names.{TableNames}
use Rattle.dx_model.specs.Values.{Tuple, Rows}
use Rattle.dx_base.specs.Texts.{Text}
use Rattle.dx_script.specs.declared.form.Step.{Step}
use Rattle.dx_script.specs.Meaning.{match_table, IsInserted, Means}
use Rattle.dx_script.specs.Laws.{MeaningIsUnique}
use Rattle.dx_script.proofs.Steps.{at_most}

-- no tuple is below one that is below it
not_both : (t u : Tuple) → slice_cmp (slice_cmp nat_cmp) t u ≡ Less → slice_cmp (slice_cmp nat_cmp) u t ≡ Less → ⊥
not_both t u p q =
    let a : Less ≡ ordering_reverse Less = sym p ∙ ((lists_total nat_list_cmp_total).antisymm t u ∙ ap ordering_reverse q) in
    let b : Less ≡ Greater = a in
    cc

same_head : (t u : Tuple) (ts us : List Tuple) → TuplesAscend (t ∷ ts) → TuplesAscend (u ∷ us) → t ∈ (u ∷ us) → u ∈ (t ∷ ts) → t ≡ u
same_head t u ts us a b (here e) n = sym e
same_head t u ts us a b (there m) (here e) = e
same_head t u ts us a b (there m) (there n) = absurd (not_both t u (a.0 u n) (b.0 t m))

not_below_itself : (t : Tuple) (ts : List Tuple) → TuplesAscend (t ∷ ts) → t ∈ ts → ⊥
not_below_itself t ts a m = not_both t t (a.0 t m) (a.0 t m)

in_tail : (t x : Tuple) (us : List Tuple) → x ∈ (t ∷ us) → (t ≡ x → ⊥) → x ∈ us
in_tail t x us (here e) n = absurd (n e)
in_tail t x us (there m) n = m

pub one_list : (ts us : List Tuple) → TuplesAscend ts → TuplesAscend us → ((t : Tuple) → (t ∈ ts → t ∈ us) × (t ∈ us → t ∈ ts)) → ts ≡ us
one_list [] [] a b h = refl
one_list [] (u ∷ us) a b h = elim ((h u).1 (here refl)) [ ]
one_list (t ∷ ts) [] a b h = elim ((h t).0 (here refl)) [ ]
one_list (t ∷ ts) (u ∷ us) a b h =
    let e : t ≡ u = same_head t u ts us a b ((h t).0 (here refl)) ((h u).1 (here refl)) in
    let r : ts ≡ us = one_list ts us a.1 b.1 (λ x. (
      (λ m. in_tail u x us ((h x).0 (there m)) (λ q. not_below_itself t ts a (subst (λ z. z ∈ ts) (sym q ∙ sym e) m))),
      (λ m. in_tail t x ts ((h x).1 (there m)) (λ q. not_below_itself u us b (subst (λ z. z ∈ us) (sym q ∙ e) m))),
    )) in
    cc

pub one_by_one : (xs ys : Rows) → length xs ≡ length ys → ((r : ℕ) → r < length xs → get_or xs r [] ≡ get_or ys r []) → xs ≡ ys
one_by_one [] [] l h = refl
one_by_one [] (y ∷ ys) l h = absurd (omega arith)
one_by_one (x ∷ xs) [] l h = absurd (omega arith)
one_by_one (x ∷ xs) (y ∷ ys) l h =
    let e : x ≡ y = h 0 (omega arith) in
    let r : xs ≡ ys = one_by_one xs ys (omega arith) (λ k m. h (suc k) (omega arith)) in
    cc

module _ (source target : List TableNames) (call : Text → Tuple → Text) (steps : List Step) (I : List Fact) where
  below : (tables others : Rows) (K L : List Fact) → Means source target call steps I tables K → Means source target call steps I others L → length tables ≤ length others
  below tables others K L m n = at_most (length tables) (length others) (λ r h. let w = m.no_more r h in (n.matches r w.0 w.1 w.2 w.3).0)

  same_tables : (tables others : Rows) (K L : List Fact) → Means source target call steps I tables K → Means source target call steps I others L → tables ≡ others
  same_tables tables others K L m n =
      let a = below tables others K L m n in
      let b = below others tables L K n m in
      one_by_one tables others (omega arith) (λ r h.
      let w = m.no_more r h in
      let p = (m.matches r w.0 w.1 w.2 w.3).1 in
      let q = (n.matches r w.0 w.1 w.2 w.3).1 in
      one_list (match_table tables r) (match_table others r) p.ascend q.ascend (λ t. ((λ k. (q.exact t).1 ((p.exact t).0 k)), (λ k. (p.exact t).1 ((q.exact t).0 k)))))

pub meaning_is_unique : MeaningIsUnique
meaning_is_unique source target call steps I tables others K L m n =
    let e = same_tables source target call steps I tables others K L m n in (
      e,
      (λ f k. (n.facts f).1 (subst (λ z. IsInserted target steps z f) e ((m.facts f).0 k))),
      (λ f k. (m.facts f).1 (subst (λ z. IsInserted target steps z f) (sym e) ((n.facts f).0 k))),
    )

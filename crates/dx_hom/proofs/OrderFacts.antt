-- Orders in which facts are moved.
use Rattle.std.proofs.Common.{◌≡◌, ◌∙◌, ℕ, ◌+◌, ◌<◌, ◌≤◌, List, [], ◌∷◌, ◌++◌, refl, sym, ap, subst, arith, inl, inr}
use Rattle.std.proofs.Common.{length, get_or, set, take}
use Rattle.std.specs.Prelude.{map}
use Rattle.std.specs.List.{SwappedAt}
use Rattle.std.specs.List.Sorted.{IsPermutation}
use Rattle.std.proofs.lemmas.Bool.{cases_lt}
use Rattle.std.proofs.lemmas.List.{length-append, map-append, take-set-le, take_all, take_more, get_or_default}
use Rattle.std.proofs.lemmas.List.Sorted.{Contains-permutation, IsPermutation-sym}
use Rattle.dx_base.specs.Members.{◌∈◌, ◌≈◌, here, there}
use Rattle.dx_base.proofs.Members.{contains_from_in, from_append, from_map, in_at, in_from_contains, in_left, in_map, in_right}
use Rattle.dx_model.specs.declared.facts.Fact.{Fact}
use Rattle.dx_hom.specs.Orders.{IsOrder, IsReordered, fact_in}

-- ---- the facts as they stand

pub order_none : IsOrder 0 []
order_none = record { many = refl; within = λ i m. elim m [ ]; all = λ i h. absurd (omega arith) }

pub order_more : (n : ℕ) (order : List ℕ) → IsOrder n order → IsOrder (n + 1) (order ++ n ∷ [])
order_more n order o = record {
  many = omega (arith, length-append order (n ∷ []), o.many);
  within = λ i m. elim (from_append order m) [ inl l ↦ let k = o.within i l in omega (arith, k) | inr r ↦ last i r ];
  all = λ i h. elim (cases_lt i n) [
    | inl l ↦ in_left (n ∷ []) (o.all i l)
    | inr l ↦ let e : n ≡ i = omega arith in in_right order (here e)
  ];
}
  where
    last : (i : ℕ) → i ∈ (n ∷ []) → i < n + 1
    last i (here e) = omega (arith, e)
    last i (there m) = elim m [ ]

-- ---- another order

pub reordered : (old new : List ℕ) (k a : ℕ) → k ≤ a → length new ≡ length old → IsPermutation old new → SwappedAt old new k a
    → IsReordered k old new
reordered old new k a h l p s = record {
  many = l;
  first =
      let one = take-set-le k (set old k (get_or old a 0)) a (get_or old k 0) h in
      let other = take-set-le k old k (get_or old a 0) (omega arith) in
      ap (take k) (s.3 0) ∙ (one ∙ other);
  same = λ i. (
    (λ m. in_from_contains old i (Contains-permutation new old i (IsPermutation-sym old new p) (contains_from_in m))),
    (λ m. in_from_contains new i (Contains-permutation old new i p (contains_from_in m))),
  );
}

pub reordered_none : (order : List ℕ) (k : ℕ) → IsReordered k order order
reordered_none order k = record { many = refl; first = refl; same = λ i. ((λ m. m), (λ m. m)) }

pub order_stays : (n k : ℕ) (old new : List ℕ) → IsReordered k old new → IsOrder n old → IsOrder n new
order_stays n k old new r o = record {
  many = r.many ∙ o.many;
  within = λ i m. o.within i ((r.same i).0 m);
  all = λ i h. (r.same i).1 (o.all i h);
}

-- ---- the facts that were moved

-- the first k facts in the order
abbrev pub moved_in : List Fact → List ℕ → ℕ → List Fact
moved_in F order k = map (fact_in F) (take k order)

pub moved_more : (F : List Fact) (order : List ℕ) (k : ℕ) → k < length order
    → moved_in F order (k + 1) ≡ moved_in F order k ++ fact_in F (get_or order k 0) ∷ []
moved_more F order k h = ap (map (fact_in F)) (take_more order k 0 h) ∙ map-append (fact_in F) (take k order) (get_or order k 0 ∷ [])

pub moved_stays : (F : List Fact) (old new : List ℕ) (k : ℕ) → IsReordered k old new → moved_in F new k ≡ moved_in F old k
moved_stays F old new k r = ap (map (fact_in F)) r.first

pub all_moved : (F : List Fact) (order : List ℕ) (k : ℕ) → IsOrder (length F) order → length F ≤ k → moved_in F order k ≈ F
all_moved F order k o h = (
  (λ f m. inside f (subst (λ (l : List ℕ). f ∈ map (fact_in F) l) whole m)),
  (λ f m. subst (λ (l : List ℕ). f ∈ map (fact_in F) l) (sym whole) (onto f m)),
)
  where
    whole : take k order ≡ order
    whole = take_all k order (omega (arith, h, o.many))

    inside : (f : Fact) → f ∈ map (fact_in F) order → f ∈ F
    inside f m =
        let r = from_map (fact_in F) order m in
        subst (λ (x : Fact). x ∈ F) r.2 (in_at F r.0 _ (o.within r.0 r.1))

    onto : (f : Fact) → f ∈ F → f ∈ map (fact_in F) order
    onto f m =
        let k = contains_from_in m in
        let e : fact_in F k.0 ≡ f = get_or_default F k.0 _ f k.1 ∙ k.2 in
        subst (λ (x : Fact). x ∈ map (fact_in F) order) e (in_map (fact_in F) (o.all k.0 k.1))

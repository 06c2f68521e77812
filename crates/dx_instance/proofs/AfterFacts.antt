-- Null maps by what they give.
use Rattle.std.proofs.Common.{◌≡◌, ◌∙◌, ◌++◌, ◌∷◌, ℕ, subst, List, [], true, Some, None, cond, refl, sym, ap, map, inl, inr, length}
use Rattle.std.specs.Ordering.{is_eq}
use Rattle.std.specs.declared.cmp.Ordering.{Ordering}
use Rattle.std.specs.declared.cmp.Ordering.TheVariants.{Less, Equal, Greater}
use Rattle.std.proofs.lemmas.Bool.{cases_Bool}
use Rattle.std.proofs.lemmas.List.{nil_from_length}
use Rattle.std.specs.FinMap as finite
use Rattle.std.specs.FinMap.Entries.{find}
use Rattle.dx_model.specs.declared.values.NullId.{NullId}
use Rattle.dx_model.specs.declared.values.Value.{Value}
use Rattle.dx_model.specs.declared.values.Value.TheVariants.{Const, Null}
use Rattle.dx_model.specs.declared.facts.NullPair.{NullPair}
use Rattle.dx_model.specs.declared.facts.Fact.{Fact}
use Rattle.dx_model.specs.Instances.{fact_moved, given, image, moved, same_null}
use Rattle.dx_model.specs.Values.{null_cmp}
use Rattle.dx_model.proofs.Maps.{same_null-refl, same_null-true}
use Rattle.dx_model.proofs.Orders.{null_total, null_exact}
use Rattle.dx_base.specs.Members.{◌∈◌, ◌⊆◌, ◌≈◌}
use Rattle.dx_base.proofs.Members.{in_map, from_map}
use Rattle.dx_instance.specs.NullMaps.{ByNull, becomes, entries_in, is_itself, IsAfter, map_of_entries, or_itself, pair_after, pairs_of, with_value}
use Rattle.dx_instance.specs.Stored.{TableRows, facts, rows_of}
use Rattle.dx_instance.proofs.StoredFacts.{fact_from_row, row_from_fact}
use Rattle.dx_instance.proofs.NullFacts.{as_pairs, pair_of}

pub tie : (o : Ordering) → is_eq o ≡ true → o ≡ Equal
tie Less e = absurd (cc e)
tie Equal e = refl
tie Greater e = absurd (cc e)

-- a null ties with another exactly if it is the same
ties : (k q : NullId) → same_null k q ≡ is_eq (null_cmp q k)
ties k q = elim (cases_Bool (is_eq (null_cmp q k))) [
  | inl y ↦ let same = null_exact q k (tie (null_cmp q k) y) in subst (λ (x : NullId). same_null k x ≡ true) (sym same) (same_null-refl k) ∙ sym y
  | inr n ↦ elim (cases_Bool (same_null k q)) [
    | inl z ↦ let same = same_null-true k q z in let s = ap is_eq (self q) in absurd (cc (rw same at n, s))
    | inr m ↦ m ∙ sym n
  ]
]
  where
    self : (n : NullId) → null_cmp n n ≡ Equal
    self n = by (null_cmp n n) refl
      where
        by : (o : Ordering) → null_cmp n n ≡ o → null_cmp n n ≡ Equal
        by Less e = let t = null_total.antisymm n n in absurd (cc (rw e at t))
        by Equal e = e
        by Greater e = let t = null_total.antisymm n n in absurd (cc (rw e at t))

given_find : (es : List (NullId × Value)) (q : NullId) → given (map pair_of es) q ≡ or_itself q (find null_cmp q es)
given_find [] q = refl
given_find (e ∷ es) q = elim (cases_Bool (is_eq (null_cmp q e.0))) [
  | inl y ↦ let t = ties e.0 q in rw (t, y) refl
  | inr n ↦ let t = ties e.0 q in rw (t, n) (given_find es q)
]

pub pairs_give : (m : ByNull) (n : NullId) → given (pairs_of m) n ≡ becomes m n
pairs_give m n = given_find (finite.entries m) n ∙ ap (or_itself n) (sym (finite.get-entries m n))

pub itself : (k : NullId) (v : Value) → is_itself k v ≡ true → v ≡ Null k
itself k (Const t) e = absurd (cc e)
itself k (Null m) e = ap (λ (j : NullId). Null j) (same_null-true m k e)

-- what a null becomes after a null was set
pub becomes_set : (m : ByNull) (k : NullId) (v : Value) (n : NullId) → becomes (with_value m k v) n ≡ cond (same_null k n) v (becomes m n)
becomes_set m k v n = elim (cases_Bool (is_itself k v)) [
  | inl y ↦
      let g = finite.get-remove null_total m k n in
      elim (cases_Bool (is_eq (null_cmp n k))) [
        | inl z ↦
            let same = null_exact n k (tie (null_cmp n k) z) in
            let t = ties k n in
            let none : finite.get (finite.remove m k) n ≡ None = rw z at g in
            rw (y, t, z, none) (ap (λ (j : NullId). Null j) same ∙ sym (itself k v y))
        | inr f ↦
            let t = ties k n in
            let stays : finite.get (finite.remove m k) n ≡ finite.get m n = rw f at g in
            rw (y, t, f, stays) refl
      ]
  | inr x ↦
      let g = finite.get-insert null_total m k v n in
      elim (cases_Bool (is_eq (null_cmp n k))) [
        | inl z ↦ let t = ties k n in let there : finite.get (finite.insert m k v) n ≡ Some v = rw z at g in rw (x, t, z, there) refl
        | inr f ↦ let t = ties k n in let stays : finite.get (finite.insert m k v) n ≡ finite.get m n = rw f at g in rw (x, t, f, stays) refl
      ]
]

pub moved_same : (m : ByNull) (v : Value) → moved (given (pairs_of m)) v ≡ moved (becomes m) v
moved_same m (Const t) = refl
moved_same m (Null n) = pairs_give m n

over_images : (b : ByNull) (ps : List NullPair) (n : NullId) → given (map (pair_after b) ps ++ pairs_of b) n ≡ moved (becomes b) (given ps n)
over_images b [] n = pairs_give b n
over_images b (p ∷ ps) n = elim (cases_Bool (same_null p.null n)) [ inl y ↦ rw y refl | inr f ↦ rw f (over_images b ps n) ]

-- what the images of the pairs of a and those of b come to
pub after_is : (a b : ByNull) (images others ps : List NullPair) → images ≡ map (pair_after b) (pairs_of a) → others ≡ pairs_of b → ((n : NullId) → given ps n ≡ given (images ++ others) n) → IsAfter a b (map_of_entries (entries_in ps))
after_is a b images others ps e f g n =
    pairs_give (map_of_entries (entries_in ps)) n ∙ ap (or_itself n) (finite.get-from_entries null_total (entries_in ps) n) ∙ sym (given_find (entries_in ps) n) ∙ ap (λ (l : List NullPair). given l n) (as_pairs ps) ∙ g n
    ∙ (rw (e, f) (over_images b (pairs_of a) n)) ∙ sym (moved_same b (given (pairs_of a) n))

pub after_stored : (a b : ByNull) (listed images others ps : List NullPair) (tree : List (NullId × Value)) → listed ≡ pairs_of a → images ≡ map (pair_after b) listed → others ≡ pairs_of b → ((n : NullId) → given ps n ≡ given (images ++ others) n)
    → length tree ≡ 0 → IsAfter a b (map_of_entries (tree ++ entries_in ps))
after_stored a b listed images others ps tree l e f g z =
    let none = nil_from_length tree z in
    rw none (after_is a b images others ps (e ∙ ap (λ (x : List NullPair). map (pair_after b) x) l) f g)

row_moved : (m : ByNull) (row : List Value) → map (moved (given (pairs_of m))) row ≡ map (moved (becomes m)) row
row_moved m [] = refl
row_moved m (v ∷ row) = let first = moved_same m v in let rest = row_moved m row in cc (first, rest)

-- images row by row are the image of the facts
pub image_of_rows : (m : ByNull) (I K : List TableRows) → ((t : ℕ) (row : List Value) → row ∈ rows_of I t → map (moved (becomes m)) row ∈ rows_of K t)
    → ((t : ℕ) (row : List Value) → row ∈ rows_of K t → (r : List Value) × (r ∈ rows_of I t) × (map (moved (becomes m)) r ≡ row)) → image (pairs_of m) (facts I) ≈ facts K
image_of_rows m I K kept only = (into, onto)
  where
    fact_with : (t : ℕ) (r s : List Value) → r ≡ s → ◌≡◌ {A = Fact} (record { table = t; row = r }) (record { table = t; row = s })
    fact_with t r s e i = record { table = t; row = e i }

    into : image (pairs_of m) (facts I) ⊆ facts K
    into f h =
        let k = from_map (fact_moved (given (pairs_of m))) (facts I) h in
        let there = fact_from_row K k.0.table (map (moved (becomes m)) k.0.row) (kept k.0.table k.0.row (row_from_fact I k.0 k.1)) in
        subst (λ (g : Fact). g ∈ facts K) (fact_with k.0.table _ _ (sym (row_moved m k.0.row)) ∙ k.2) there

    onto : facts K ⊆ image (pairs_of m) (facts I)
    onto f h =
        let r = only f.table f.row (row_from_fact K f h) in
        let here = in_map (fact_moved (given (pairs_of m))) (fact_from_row I f.table r.0 r.1) in
        subst (λ (g : Fact). g ∈ image (pairs_of m) (facts I)) (fact_with f.table _ _ (row_moved m r.0 ∙ r.2)) here

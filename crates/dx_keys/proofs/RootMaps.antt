-- The null map of the roots, null by null.
use Rattle.std.proofs.Common.{◌≡◌, ◌∙◌, ℕ, suc, ◌+◌, ◌<◌, ◌≤◌, false, List, [], ◌∷◌, ◌++◌, inl, inr, refl, sym, ap, length, drop, map, arith}
use Rattle.std.specs.declared.cmp.Ordering.TheVariants.{Less, Greater}
use Rattle.std.specs.Ordering.{ordering_reverse}
use Rattle.std.specs.FinMap as finite
use Rattle.std.specs.FinMap.Entries.{put, by_order}
use Rattle.std.proofs.Math.Seq.{drop-cons}
use Rattle.std.proofs.lemmas.Bool.{cases_Bool, eq-eqb, ne_eqb}
use Rattle.std.proofs.lemmas.List.{drop_all}
use Rattle.dx_base.specs.Members.{◌∈◌, here, there, Each}
use Rattle.dx_base.proofs.Members.{from_append}
use Rattle.dx_base.proofs.Lists.{none_of_length}
use Rattle.dx_model.specs.declared.values.NullId.{NullId}
use Rattle.dx_model.specs.declared.values.Value.{Value}
use Rattle.dx_model.specs.declared.values.Value.TheVariants.{Const, Null}
use Rattle.dx_model.specs.declared.facts.NullPair.{NullPair}
use Rattle.dx_model.specs.Tables.{cell}
use Rattle.dx_model.specs.Values.{null_cmp}
use Rattle.dx_model.proofs.Orders.{null_total}
use Rattle.dx_instance.specs.NullMaps.{ByNull, is_itself, pairs_of, with_value}
use Rattle.dx_instance.specs.Numbers.{ValuesAscend}
use Rattle.dx_instance.proofs.AfterFacts.{itself}
use Rattle.dx_instance.proofs.NullFacts.{pair_of}
use Rattle.dx_instance.proofs.ShownFacts.{number_same}
use Rattle.dx_chase.specs.Joins.{nth}
use Rattle.dx_keys.specs.Numbers.{NumberRoots, null_map_of, null_of, null_pairs_from}
use Rattle.dx_keys.proofs.InOrder.{apart}
use Rattle.dx_keys.proofs.Readings.{DistinctRanks}

-- what the map lists, and then what becomes of the numbers from i on, is the whole; a null of the map has a number below i
pub record MapTo (S : List Value) (roots : List ℕ) (i : ℕ) (m : ByNull) : Type 0 where
  pub whole : pairs_of m ++ null_pairs_from S roots i (drop i S) ≡ null_map_of S roots
  pub below : Each (pairs_of m) (λ p. (k : ℕ) × (k < i) × (cell S k ≡ Null p.null))

drop_one : (S : List Value) (i : ℕ) → i < length S → drop i S ≡ cell S i ∷ drop (i + 1) S
drop_one S i h = let on : i + 1 ≡ suc i = omega arith in drop-cons S i (Const []) h ∙ ap (λ k. cell S i ∷ drop k S) (sym on)

nothing_more : {X : Type 0} (xs : List X) → xs ++ [] ≡ xs
nothing_more [] = refl
nothing_more (x ∷ xs) = ap (λ z. x ∷ z) (nothing_more xs)

one_and_more : {X : Type 0} (xs : List X) (x : X) (ys : List X) → (xs ++ x ∷ []) ++ ys ≡ xs ++ x ∷ ys
one_and_more [] x ys = refl
one_and_more (z ∷ xs) x ys = ap (λ w. z ∷ w) (one_and_more xs x ys)

pair_last : (es : List (NullId × Value)) (e : NullId × Value) → map pair_of (es ++ e ∷ []) ≡ map pair_of es ++ pair_of e ∷ []
pair_last [] e = refl
pair_last (d ∷ es) e = ap (λ z. pair_of d ∷ z) (pair_last es e)

pub map_none : (S : List Value) (roots : List ℕ) (m : ByNull) → m ≡ finite.empty → MapTo S roots 0 m
map_none S roots m e = record {
  whole = ap (λ z. z ++ null_pairs_from S roots 0 (drop 0 S)) nothing;
  below = λ p k. elim (rw nothing at k) [ ];
}
  where
    empty : ByNull
    empty = finite.empty

    none : finite.entries empty ≡ []
    none = none_of_length (finite.entries empty) (sym (finite.len-entries empty) ∙ finite.len-empty null_cmp Value)

    nothing : pairs_of m ≡ []
    nothing = rw e (ap (map pair_of) none)

pub map_kept : (S : List Value) (roots : List ℕ) (i : ℕ) (m : ByNull) → i < length S → nth roots i ≡ i → MapTo S roots i m → MapTo S roots (i + 1) m
map_kept S roots i m h r M = record {
  whole = ap (λ z. pairs_of m ++ z) (sym rest) ∙ M.whole;
  below = λ p k. let Q = M.below p k in let l = Q.1 in (Q.0, omega arith, Q.2);
}
  where
    rest : null_pairs_from S roots i (drop i S) ≡ null_pairs_from S roots (i + 1) (drop (i + 1) S)
    rest = rw (drop_one S i h, eq-eqb (nth roots i) i r) refl

pub map_whole : (S : List Value) (roots : List ℕ) (i : ℕ) (m : ByNull) → length S ≤ i → MapTo S roots i m → pairs_of m ≡ null_map_of S roots
map_whole S roots i m h M = sym (nothing_more (pairs_of m)) ∙ (ap (λ z. pairs_of m ++ null_pairs_from S roots i z) (sym (drop_all i S h)) ∙ M.whole)

put_after : (k : NullId) (v : Value) (es : List (NullId × Value)) → ((p : NullPair) → p ∈ map pair_of es → null_cmp k p.null ≡ Greater) → put null_cmp k v es ≡ es ++ (k, v) ∷ []
put_after k v [] h = refl
put_after k v (e ∷ es) h =
    ap (λ o. by_order o ((k, v) ∷ e ∷ es) ((e.0, v) ∷ es) (e ∷ put null_cmp k v es)) (h (pair_of e) (here refl))
    ∙ ap (λ z. e ∷ z) (put_after k v es (λ p m. h p (there m)))

module _ (S : List Value) (roots : List ℕ) (up : ValuesAscend S) (R : NumberRoots S roots) where
  distinct : DistinctRanks S
  distinct i j h k e = number_same S i j (apart S up) h k e

  pub map_set : (i : ℕ) (m new : ByNull) (null : NullId) (value : Value) → i < length S → ¬ (nth roots i ≡ i) → null ≡ null_of (cell S i) → value ≡ cell S (nth roots i)
      → new ≡ with_value m null value → MapTo S roots i m → MapTo S roots (i + 1) new
  map_set i m new null value h r a b w M = record {
    whole =
        ap (λ z. z ++ null_pairs_from S roots (i + 1) (drop (i + 1) S)) pairs
        ∙ (one_and_more (pairs_of m) here_is (null_pairs_from S roots (i + 1) (drop (i + 1) S)) ∙ (ap (λ z. pairs_of m ++ z) (sym rest) ∙ M.whole));
    below = λ q k. elim (from_append (pairs_of m) (rw pairs at k)) [
      | inl l ↦ let Q = M.below q l in let g = Q.1 in (Q.0, omega arith, Q.2)
      | inr l ↦ last q l
    ];
  }
    where
      here_is : NullPair
      here_is = record { null = null; value = value }

      is : cell S i ≡ Null null
      is = let n = R.nulls i h r in n.1 ∙ ap Null (sym (a ∙ ap null_of n.1))

      after : (p : NullPair) → p ∈ map pair_of (finite.entries m) → null_cmp null p.null ≡ Greater
      after p k =
          let Q = M.below p k in
          let l : null_cmp p.null null ≡ Less = rw (is, Q.2) at (up Q.0 i (Const []) Q.1 h) in
          null_total.antisymm null p.null ∙ ap ordering_reverse l

      other : is_itself null value ≡ false
      other = elim (cases_Bool (is_itself null value)) [
        | inl t ↦ absurd (r (distinct (nth roots i) i (R.within i h) h (sym b ∙ (itself null value t ∙ sym is))))
        | inr f ↦ f
      ]

      put_in : finite.entries (finite.insert m null value) ≡ finite.entries m ++ (null, value) ∷ []
      put_in = finite.entries-insert null_total m null value ∙ put_after null value (finite.entries m) after

      pairs : pairs_of new ≡ pairs_of m ++ here_is ∷ []
      pairs = rw (w, other) (ap (map pair_of) put_in ∙ pair_last (finite.entries m) (null, value))

      rest : null_pairs_from S roots i (drop i S) ≡ here_is ∷ null_pairs_from S roots (i + 1) (drop (i + 1) S)
      rest = rw (drop_one S i h, ne_eqb (nth roots i) i r, ← a, ← b) refl

      last : (q : NullPair) → q ∈ (here_is ∷ []) → (k : ℕ) × (k < i + 1) × (cell S k ≡ Null q.null)
      last q (here e) = (i, omega arith, is ∙ ap (λ (z : NullPair). Null z.null) e)
      last q (there e) = elim e [ ]

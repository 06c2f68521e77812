-- Ascending lists of pairs: what one lists for a null, and how two become one.
use Rattle.std.proofs.Common.{◌≡◌, ◌∙◌, ◌+◌, ◌-◌, ◌<◌, ◌≤◌, ◌++◌, ◌∷◌, ℕ, suc, zero, Bool, List, [], true, false, Some, None, cond, refl, sym, ap, subst, arith, length, get_or, inl, inr, append_assoc, append-nil}
use Rattle.std.specs.FinMap.{find}
use Rattle.std.specs.Bool.{OnTrue}
use Rattle.std.specs.List.{HoldsAt}
use Rattle.std.specs.List.Sorted.{IsNonDecreasingBy, IsPartitionPoint, IsSortedBy}
use Rattle.std.specs.Ordering.{is_eq, is_lt, ordering_index, ordering_reverse}
use Rattle.std.specs.declared.cmp.Ordering.{Ordering}
use Rattle.std.specs.declared.cmp.Ordering.TheVariants.{Less, Equal, Greater}
use Rattle.std.proofs.lemmas.Bool.{cases_Bool, cases_lt}
use Rattle.std.proofs.lemmas.List.{get_or_default, length-append, nil_from_length}
use Rattle.std.proofs.lemmas.List.Sorted.{searchable_from_sorted}
use Rattle.dx_model.specs.declared.values.NullId.{NullId}
use Rattle.dx_model.specs.declared.values.Value.{Value}
use Rattle.dx_model.specs.declared.values.Value.TheVariants.{Null}
use Rattle.dx_model.specs.declared.facts.NullPair.{NullPair}
use Rattle.dx_model.specs.Instances.{given, same_null}
use Rattle.dx_model.specs.Values.{null_cmp}
use Rattle.dx_model.proofs.Maps.{same_null-refl, same_null-true}
use Rattle.dx_model.proofs.Orders.{null_total, null_exact}
use Rattle.dx_base.specs.Members.{◌∈◌, Each, here, there}
use Rattle.dx_base.proofs.Members.{contains_from_in, from_append, in_left, in_right, in_at}
use Rattle.dx_instance.specs.NullMaps.{IsMergeStep, NoPairIsItself, PairsAscend, entries_in, is_itself, with_proper}
use Rattle.dx_instance.proofs.AfterFacts.{itself}

itself_equal : (n : NullId) → null_cmp n n ≡ Equal
itself_equal n = by (null_cmp n n) refl
  where
    by : (o : Ordering) → null_cmp n n ≡ o → null_cmp n n ≡ Equal
    by Less e = let t = null_total.antisymm n n in absurd (cc (rw e at t))
    by Equal e = e
    by Greater e = let t = null_total.antisymm n n in absurd (cc (rw e at t))

-- a null that is below another is not the same
pub not_same : (m n : NullId) → null_cmp m n ≡ Less → same_null n m ≡ false
not_same m n l = elim (cases_Bool (same_null n m)) [
  | inl t ↦
      let e = same_null-true n m t in
      let s = itself_equal m in
      let b : null_cmp m m ≡ Less = rw e at l in
      absurd (cc (b, s))
  | inr f ↦ f
]

pub below : (m n : NullId) → null_cmp m n ≡ Greater → null_cmp n m ≡ Less
below m n g = null_total.antisymm n m ∙ ap ordering_reverse g

pub above : (m n : NullId) → null_cmp m n ≡ Less → null_cmp n m ≡ Greater
above m n l = null_total.antisymm n m ∙ ap ordering_reverse l

below_all : (m n : NullId) (ps : List NullPair) → null_cmp m n ≡ Less → Each ps (λ (p : NullPair). null_cmp n p.null ≡ Less) → Each ps (λ (p : NullPair). null_cmp m p.null ≡ Less)
below_all m n ps l all p i = null_total.trans m n p.null l (all p i)

both_each : (P : NullPair → Type 0) (xs ys : List NullPair) → Each xs P → Each ys P → Each (xs ++ ys) P
both_each P xs ys f g p i = elim (from_append xs i) [ inl l ↦ f p l | inr r ↦ g p r ]

first_each : (P : NullPair → Type 0) (x : NullPair) (xs : List NullPair) → P x → Each xs P → Each (x ∷ xs) P
first_each P x xs f g p (here e) = subst P e f
first_each P x xs f g p (there i) = g p i

none_each : (P : NullPair → Type 0) → Each [] P
none_each P p i = elim i [ ]

-- a null that is below all that are listed is given itself
pub unlisted : (m : NullId) (ps : List NullPair) → Each ps (λ (p : NullPair). null_cmp m p.null ≡ Less) → given ps m ≡ Null m
unlisted m [] all = refl
unlisted m (p ∷ ps) all = let f = not_same m p.null (all p (here refl)) in rw f (unlisted m ps (λ q i. all q (there i)))

-- lists that give the same give the same after others
pub after_others : (xs ys zs : List NullPair) (n : NullId) → given ys n ≡ given zs n → given (xs ++ ys) n ≡ given (xs ++ zs) n
after_others [] ys zs n e = e
after_others (x ∷ xs) ys zs n e = ap (λ (v : Value). cond (same_null x.null n) x.value v) (after_others xs ys zs n e)

-- a pair whose null is another changes nothing
without : (xs ys : List NullPair) (y : NullPair) (n : NullId) → same_null y.null n ≡ false → given (xs ++ y ∷ ys) n ≡ given (xs ++ ys) n
without xs ys y n f = after_others xs (y ∷ ys) ys n (rw f refl)

-- a pair that comes after others with greater nulls may come before them
forward : (xs ys : List NullPair) (y : NullPair) (n : NullId) → Each xs (λ (p : NullPair). null_cmp y.null p.null ≡ Less) → given (xs ++ y ∷ ys) n ≡ given (y ∷ xs ++ ys) n
forward xs ys y n all = elim (cases_Bool (same_null y.null n)) [
  | inl t ↦
      let e = same_null-true y.null n t in
      rw t (passed xs (λ p i. subst (λ (m : NullId). null_cmp m p.null ≡ Less) e (all p i)) t)
  | inr f ↦ rw f (without xs ys y n f)
]
  where
    passed : (zs : List NullPair) → Each zs (λ (p : NullPair). null_cmp n p.null ≡ Less) → same_null y.null n ≡ true → given (zs ++ y ∷ ys) n ≡ y.value
    passed [] a t = rw t refl
    passed (z ∷ zs) a t = let f = not_same n z.null (a z (here refl)) in rw f (passed zs (λ q i. a q (there i)) t)

second_alone : (y : NullPair) (ys : List NullPair) → PairsAscend (y ∷ ys) → IsMergeStep [] (y ∷ ys) y [] ys
second_alone y ys up = record {
  fewer = omega arith;
  ascend = (tt, up.1);
  kept = λ p i. there i;
  is = here refl;
  below = up.0;
  gives = λ n. refl;
}

first_alone : (x : NullPair) (xs : List NullPair) → PairsAscend (x ∷ xs) → IsMergeStep (x ∷ xs) [] x xs []
first_alone x xs up = record {
  fewer = omega arith;
  ascend = (up.1, tt);
  kept = λ p i. there i;
  is = here refl;
  below = both_each _ xs [] up.0 (none_each _);
  gives = λ n. refl;
}

first_less : (x y : NullPair) (xs ys : List NullPair) → PairsAscend (x ∷ xs) → PairsAscend (y ∷ ys) → null_cmp x.null y.null ≡ Less → IsMergeStep (x ∷ xs) (y ∷ ys) x xs (y ∷ ys)
first_less x y xs ys up on l = record {
  fewer = omega arith;
  ascend = (up.1, on);
  kept = λ p i. there i;
  is = here refl;
  below = both_each _ xs (y ∷ ys) up.0 (first_each _ y ys l (below_all x.null y.null ys l on.0));
  gives = λ n. refl;
}

both_same : (x y : NullPair) (xs ys : List NullPair) → PairsAscend (x ∷ xs) → PairsAscend (y ∷ ys) → null_cmp x.null y.null ≡ Equal → IsMergeStep (x ∷ xs) (y ∷ ys) x xs ys
both_same x y xs ys up on l = record {
  fewer = omega (arith, length-append xs ys, length-append xs (y ∷ ys));
  ascend = (up.1, on.1);
  kept = λ p i. there (elim (from_append xs i) [ inl a ↦ in_left (y ∷ ys) a | inr b ↦ in_right xs (there b) ]);
  is = here refl;
  below = both_each _ xs ys up.0 (λ p i. subst (λ (m : NullId). null_cmp m p.null ≡ Less) (sym (null_exact x.null y.null l)) (on.0 p i));
  gives = gives;
}
  where
    gives : (n : NullId) → given (x ∷ xs ++ y ∷ ys) n ≡ given (x ∷ xs ++ ys) n
    gives n = elim (cases_Bool (same_null x.null n)) [
      | inl t ↦ rw t refl
      | inr f ↦ let e : same_null y.null n ≡ false = subst (λ (m : NullId). same_null m n ≡ false) (null_exact x.null y.null l) f in rw f (without xs ys y n e)
    ]

second_less : (x y : NullPair) (xs ys : List NullPair) → PairsAscend (x ∷ xs) → PairsAscend (y ∷ ys) → null_cmp x.null y.null ≡ Greater → IsMergeStep (x ∷ xs) (y ∷ ys) y (x ∷ xs) ys
second_less x y xs ys up on g =
    let l = below x.null y.null g in
    let all = first_each (λ (p : NullPair). null_cmp y.null p.null ≡ Less) x xs l (below_all y.null x.null xs l up.0) in
    record {
      fewer = omega (arith, length-append xs ys, length-append xs (y ∷ ys));
      ascend = (up, on.1);
      kept = λ p i. elim (from_append (x ∷ xs) i) [ inl a ↦ in_left (y ∷ ys) a | inr b ↦ in_right (x ∷ xs) (there b) ];
      is = in_right (x ∷ xs) (here refl);
      below = both_each _ (x ∷ xs) ys all on.0;
      gives = λ n. forward (x ∷ xs) ys y n all;
    }

pub turn_none : (first second ys : List NullPair) (y : NullPair) → length first ≡ 0 → second ≡ y ∷ ys → PairsAscend second → IsMergeStep first second y first ys
turn_none first second ys y z f up = let e = nil_from_length first z in rw (e, f) (second_alone y ys (rw f at up))

pub turn_first : (first second xs : List NullPair) (x : NullPair) → first ≡ x ∷ xs → length second ≡ 0 → PairsAscend first → IsMergeStep first second x xs second
turn_first first second xs x f z up = let e = nil_from_length second z in rw (e, f) (first_alone x xs (rw f at up))

pub turn_less : (first second xs ys : List NullPair) (x y : NullPair) → first ≡ x ∷ xs → second ≡ y ∷ ys → PairsAscend first → PairsAscend second → null_cmp x.null y.null ≡ Less → IsMergeStep first second x xs second
turn_less first second xs ys x y e f up on l = rw (e, f) (first_less x y xs ys (rw e at up) (rw f at on) l)

pub turn_same : (first second xs ys : List NullPair) (x y : NullPair) → first ≡ x ∷ xs → second ≡ y ∷ ys → PairsAscend first → PairsAscend second → null_cmp x.null y.null ≡ Equal → IsMergeStep first second x xs ys
turn_same first second xs ys x y e f up on l = rw (e, f) (both_same x y xs ys (rw e at up) (rw f at on) l)

pub turn_greater : (first second xs ys : List NullPair) (x y : NullPair) → first ≡ x ∷ xs → second ≡ y ∷ ys → PairsAscend first → PairsAscend second → null_cmp x.null y.null ≡ Greater → IsMergeStep first second y first ys
turn_greater first second xs ys x y e f up on l = rw (e, f) (second_less x y xs ys (rw e at up) (rw f at on) l)

-- what is done of a merging, and what is left
pub record IsMerging (first second all rest others : List NullPair) : Type 0 where
  pub ascend : PairsAscend rest × PairsAscend others
  pub done : PairsAscend all
  pub proper : NoPairIsItself all
  pub apart : (p q : NullPair) → p ∈ all → q ∈ (rest ++ others) → null_cmp p.null q.null ≡ Less
  pub gives : (n : NullId) → given (all ++ (rest ++ others)) n ≡ given (first ++ second) n

pub merging_starts : (first second : List NullPair) → PairsAscend first → PairsAscend second → IsMerging first second [] first second
merging_starts first second a b = record {
  ascend = (a, b);
  done = tt;
  proper = none_each _;
  apart = λ p q i. elim i [ ];
  gives = λ n. refl;
}

-- a pair above all goes last
pub pairs_push : (ps : List NullPair) (p : NullPair) → PairsAscend ps → Each ps (λ (q : NullPair). null_cmp q.null p.null ≡ Less) → PairsAscend (ps ++ p ∷ [])
pairs_push [] p up all = (none_each _, tt)
pairs_push (q ∷ ps) p up all = (both_each _ ps (p ∷ []) up.0 (first_each _ p [] (all q (here refl)) (none_each _)), pairs_push ps p up.1 (λ r i. all r (there i)))

pub proper_push : (ps : List NullPair) (n : NullId) (v : Value) → NoPairIsItself ps → is_itself n v ≡ false → NoPairIsItself (ps ++ record { null = n; value = v } ∷ [])
proper_push ps n v h f = both_each (λ (p : NullPair). ¬ (p.value ≡ Null p.null)) ps (record { null = n; value = v } ∷ []) h (first_each (λ (p : NullPair). ¬ (p.value ≡ Null p.null)) (record { null = n; value = v }) [] differs (none_each _))
  where
    differs : ¬ (v ≡ Null n)
    differs q = let s = same_null-refl n in let t = rw q at f in cc (t, s)

-- a pair that gives its null the null itself may be left out, if its null isn't listed after it
skipped : (p : NullPair) (ps : List NullPair) (n : NullId) → is_itself p.null p.value ≡ true → Each ps (λ (q : NullPair). null_cmp p.null q.null ≡ Less) → given (p ∷ ps) n ≡ given ps n
skipped p ps n i all = elim (cases_Bool (same_null p.null n)) [
  | inl t ↦
      let e = same_null-true p.null n t in
      rw t (itself p.null p.value i ∙ sym (unlisted p.null ps all) ∙ ap (λ (m : NullId). given ps m) e)
  | inr f ↦ rw f refl
]

-- one pair more
pub merging_goes_on : (first second all new rest others less fewer : List NullPair) (pair : NullPair) (v : Value) → v ≡ pair.value → IsMerging first second all rest others
    → IsMergeStep rest others pair less fewer → new ≡ with_proper all pair.null v → IsMerging first second new less fewer
merging_goes_on first second all new rest others less fewer pair v same m t e = elim (cases_Bool (is_itself pair.null pair.value)) [
  | inl i ↦ rw (e, same, i) (record {
    ascend = t.ascend;
    done = m.done;
    proper = m.proper;
    apart = λ p q a b. m.apart p q a (t.kept q b);
    gives = λ n. after_others all (less ++ fewer) (rest ++ others) n (sym (skipped pair (less ++ fewer) n i t.below) ∙ sym (t.gives n)) ∙ m.gives n;
  })
  | inr f ↦ rw (e, same, f) (record {
    ascend = t.ascend;
    done = pairs_push all pair m.done (λ q a. m.apart q pair a t.is);
    proper = proper_push all pair.null pair.value m.proper f;
    apart = λ p q a b. both_each (λ (r : NullPair). null_cmp r.null q.null ≡ Less) all (pair ∷ []) (λ r c. m.apart r q c (t.kept q b)) (first_each _ pair [] (t.below q b) (none_each _)) p a;
    gives = λ n. ap (λ (l : List NullPair). given l n) (append_assoc all (pair ∷ []) (less ++ fewer)) ∙ after_others all (pair ∷ less ++ fewer) (rest ++ others) n (sym (t.gives n)) ∙ m.gives n;
  })
]

pub merging_ends : (first second all rest others : List NullPair) → IsMerging first second all rest others → length (rest ++ others) ≡ 0 → (n : NullId) → given all n ≡ given (first ++ second) n
merging_ends first second all rest others m e n =
    let none = nil_from_length (rest ++ others) e in
    ap (λ (l : List NullPair). given l n) (sym (append-nil all) ∙ ap (λ (l : List NullPair). all ++ l) (sym none)) ∙ m.gives n

-- ascending pairs by their places
pairs_rise : (ps : List NullPair) (d : NullPair) (i j : ℕ) → PairsAscend ps → i < j → j < length ps → null_cmp (get_or ps i d).null (get_or ps j d).null ≡ Less
pairs_rise [] d i j up l h = absurd (omega (arith, h))
pairs_rise (p ∷ ps) d zero (suc j) up l h = up.0 (get_or ps j d) (in_at ps j d (omega (arith, h)))
pairs_rise (p ∷ ps) d (suc i) (suc j) up l h = pairs_rise ps d i j up.1 (omega (arith, l)) (omega (arith, h))
pairs_rise (p ∷ ps) d i zero up l h = absurd (omega (arith, l))

search_below : (ps : List NullPair) (d : NullPair) (m : ℕ) (n : NullId) → PairsAscend ps → m < length ps → null_cmp (get_or ps m d).null n ≡ Less → (k : ℕ) → k < m + 1 → null_cmp (get_or ps k d).null n ≡ Less
search_below ps d m n up h l k i = elim (cases_lt k m) [
  | inl a ↦ null_total.trans (get_or ps k d).null (get_or ps m d).null n (pairs_rise ps d k m up a h) l
  | inr b ↦ let e : k ≡ m = omega (arith, b, i) in rw e l
]

-- what is found stands there, and what isn't found isn't listed
search_found : (ps : List NullPair) (d : NullPair) (m : ℕ) (n : NullId) → PairsAscend ps → m < length ps → null_cmp (get_or ps m d).null n ≡ Equal → Some (get_or ps m d).value ≡ find null_cmp n (entries_in ps)
search_found [] d m n up h e = absurd (omega (arith, h))
search_found (p ∷ ps) d zero n up h e =
    let same = null_exact p.null n e in
    let s : null_cmp n p.null ≡ Equal = subst (λ (k : NullId). null_cmp k p.null ≡ Equal) same (itself_equal p.null) in
    rw s refl
search_found (p ∷ ps) d (suc m) n up h e =
    let in_rest : m < length ps = omega (arith, h) in
    let same = null_exact (get_or ps m d).null n e in
    let l : null_cmp p.null n ≡ Less = subst (λ (k : NullId). null_cmp p.null k ≡ Less) same (up.0 (get_or ps m d) (in_at ps m d in_rest)) in
    let g = above p.null n l in
    rw g (search_found ps d m n up.1 in_rest e)

unfound : (ps : List NullPair) (n : NullId) → Each ps (λ (p : NullPair). ¬ (null_cmp p.null n ≡ Equal)) → None ≡ find null_cmp n (entries_in ps)
unfound [] n all = refl
unfound (p ∷ ps) n all = elim (cases_Bool (is_eq (null_cmp n p.null))) [
  | inl t ↦ absurd (all p (here refl) (turned (null_cmp n p.null) refl t))
  | inr f ↦ rw f (unfound ps n (λ q i. all q (there i)))
]
  where
    turned : (o : Ordering) → null_cmp n p.null ≡ o → is_eq (null_cmp n p.null) ≡ true → null_cmp p.null n ≡ Equal
    turned Less e t = absurd (cc (rw e at t))
    turned Equal e t = null_total.antisymm p.null n ∙ ap ordering_reverse e
    turned Greater e t = absurd (cc (rw e at t))

search_missed : (ps : List NullPair) (low high : ℕ) (n : NullId) → high ≤ low → ((k : ℕ) (d : NullPair) → k < low → null_cmp (get_or ps k d).null n ≡ Less)
    → ((k : ℕ) (d : NullPair) → high ≤ k → k < length ps → null_cmp (get_or ps k d).null n ≡ Greater) → None ≡ find null_cmp n (entries_in ps)
search_missed ps low high n done down up = unfound ps n (λ p i e. by p i e)
  where
    by : (p : NullPair) → p ∈ ps → null_cmp p.null n ≡ Equal → ⊥
    by p i e =
        let c = contains_from_in i in
        let s : get_or ps c.0 p ≡ p = c.2 in
        elim (cases_lt c.0 low) [
          | inl a ↦ let l : null_cmp p.null n ≡ Less = rw s at (down c.0 p a) in cc (l, e)
          | inr b ↦ let g : null_cmp p.null n ≡ Greater = rw s at (up c.0 p (omega (arith, b, done)) c.1) in cc (g, e)
        ]

-- ascending pairs may be searched for a null
falls : (ps : List NullPair) → PairsAscend ps → IsSortedBy (λ a b. is_lt (null_cmp a.null b.null)) ps
falls ps up k d low h =
    let e = pairs_rise ps d k (k + 1) up (omega arith) h in
    let t = null_total.antisymm (get_or ps (k + 1) d).null (get_or ps k d).null in
    ap is_lt (t ∙ ap ordering_reverse e)

-- the pair that a binary search found
pub pair_found : (ps : List NullPair) (p : NullPair) (m : ℕ) (n : NullId) → PairsAscend ps → m < length ps → HoldsAt (λ (q : NullPair). null_cmp q.null n ≡ Equal) ps m → Some (get_or ps m p).value ≡ find null_cmp n (entries_in ps)
pair_found ps p m n up h s = search_found ps p m n up h (s p)

-- a null that a binary search did not find is not listed
pub pair_missed : (ps : List NullPair) (m : ℕ) (n : NullId) → PairsAscend ps
    → (IsNonDecreasingBy (λ (q : NullPair). ordering_index (null_cmp q.null n)) ps → IsPartitionPoint (λ (q : NullPair). null_cmp q.null n ≡ Less) (λ (q : NullPair). null_cmp q.null n ≡ Greater) ps m) → None ≡ find null_cmp n (entries_in ps)
pair_missed ps m n up found =
    let parts = found (searchable_from_sorted null_total (λ (p : NullPair). p.null) ps n (falls ps up)) in
    search_missed ps m m n (omega arith) (λ k d l. parts.0 k d (omega arith) l) (λ k d l h. parts.1 k d l h)

-- a null above the last pair is above all
above_last : (ps : List NullPair) (d : NullPair) (n : NullId) → PairsAscend ps → null_cmp (get_or ps (length ps - 1) d).null n ≡ Less → Each ps (λ (p : NullPair). null_cmp p.null n ≡ Less)
above_last ps d n up l p i =
    let c = contains_from_in i in
    let s : get_or ps c.0 d ≡ p = get_or_default ps c.0 d p c.1 ∙ c.2 in
    let here_too : c.0 < (length ps - 1) + 1 = omega (arith, c.1) in
    rw s at (search_below ps d (length ps - 1) n up (omega (arith, c.1)) l c.0 here_too)

lesser : (o : Ordering) → true ≡ is_lt o → o ≡ Less
lesser Less e = refl
lesser Equal e = absurd (cc e)
lesser Greater e = absurd (cc e)

pub on_last : (ps : List NullPair) (p : NullPair) (n : NullId) (b : Bool) → PairsAscend ps → p ≡ get_or ps (length ps - 1) p → b ≡ is_lt (null_cmp p.null n) → OnTrue b (Each ps (λ (q : NullPair). null_cmp q.null n ≡ Less))
on_last ps p n true up e t = above_last ps p n up (subst (λ (q : NullPair). null_cmp q.null n ≡ Less) e (lesser (null_cmp p.null n) t))
on_last ps p n false up e t = tt

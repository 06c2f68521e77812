-- Nulls in buckets: one more, one less, and what a look-up tells.
use Rattle.std.proofs.Common.{◌≡◌, ◌∙◌, ℕ, zero, suc, ◌+◌, ◌<◌, ◌≤◌, ◌==◌, List, [], ◌∷◌, ◌++◌, false, refl, sym, ap, arith, inl, inr}
use Rattle.std.proofs.Common.{length, get_or, set, replicate, eq-eqb}
use Rattle.std.specs.Prelude.{Option, Some, if◌then◌else◌}
use Rattle.std.specs.Option.{option_to_list, unwrap_or}
use Rattle.std.proofs.lemmas.Bool.{cases_Bool, cases_lt, eqb-true}
use Rattle.std.proofs.lemmas.List.{length-append, length-map, length-set, length-replicate, map-append, get_or_append_left, get_or_default}
use Rattle.std.proofs.lemmas.List.{get_or-map, get_or_push, get_or-set_same, get_or-set_other}
use Rattle.dx_base.specs.Members.{◌∈◌}
use Rattle.dx_base.proofs.Members.{contains_from_in, from_map}
use Rattle.dx_model.specs.declared.values.NullId.{NullId}
use Rattle.dx_instance.specs.Chains.{last_code}
use Rattle.dx_instance.proofs.ChainFacts.{last_after, last_front, last_hits, last_most}
use Rattle.dx_hom.specs.declared.matching.Found.{Found}
use Rattle.dx_hom.specs.Bound.{LinksBoundNulls, LinksBuckets, bucket, buckets_of, found_at}
use Rattle.dx_hom.specs.Narrowing.{found_nulls}

-- ---- links of numbers

zero_at : (n b d : ℕ) → get_or (replicate n d) b d ≡ d
zero_at zero b d = refl
zero_at (suc n) zero d = refl
zero_at (suc n) (suc b) d = zero_at n b d

linked_none : (n : ℕ) → LinksBuckets [] (replicate n 0) []
linked_none n = record { many = refl; head = λ b h. zero_at n b 0; earlier = λ p h. absurd (omega arith) }

-- the last place of a number after one more
last_new : (key k : ℕ) (keys : List ℕ)
    → last_code key (keys ++ k ∷ []) (suc (length keys)) ≡ (if k == key then suc (length keys) else last_code key keys (length keys))
last_new key k keys =
    let at = get_or_push keys k 0 (length keys) refl in
    let front = last_front key keys (k ∷ []) (length keys) (omega arith) in
    rw (at, front) refl

one_longer : (keys : List ℕ) (b : ℕ) → length (keys ++ b ∷ []) ≡ suc (length keys)
one_longer keys b = omega (arith, length-append keys (b ∷ []))

differs : (b c : ℕ) → (b == c) ≡ false → ¬ (c ≡ b)
differs b c f e = let t = eq-eqb b c (sym e) in absurd (cc (t, f))

linked_more : (keys heads before : List ℕ) (b : ℕ) → b < length heads → LinksBuckets keys heads before
    → LinksBuckets (keys ++ b ∷ []) (set heads b (length keys + 1)) (before ++ get_or heads b 0 ∷ [])
linked_more keys heads before b h l = record { many = many; head = head; earlier = earlier }
  where
    long : length (keys ++ b ∷ []) ≡ suc (length keys)
    long = one_longer keys b

    many : length (before ++ get_or heads b 0 ∷ []) ≡ length (keys ++ b ∷ [])
    many = omega (arith, length-append before (get_or heads b 0 ∷ []), long, l.many)

    head : (c : ℕ) → c < length (set heads b (length keys + 1))
        → get_or (set heads b (length keys + 1)) c 0 ≡ last_code c (keys ++ b ∷ []) (length (keys ++ b ∷ []))
    head c k = elim (cases_Bool (b == c)) [
      | inl y ↦
          let e : b ≡ c = eqb-true b c y in
          let at : get_or (set heads b (length keys + 1)) c 0 ≡ length keys + 1 =
          rw (← e) (get_or-set_same heads b (length keys + 1) 0 h) in
          rw (long, last_new c b keys, y) (omega (arith, at))
      | inr f ↦
          let other = get_or-set_other heads b c (length keys + 1) 0 (differs b c f) in
          let w = l.head c (omega (arith, k, length-set heads b (length keys + 1))) in
          rw (long, last_new c b keys, f) (other ∙ w)
    ]

    earlier : (p : ℕ) → p < length (keys ++ b ∷ [])
        → get_or (before ++ get_or heads b 0 ∷ []) p 0 ≡ last_code (get_or (keys ++ b ∷ []) p 0) (keys ++ b ∷ []) p
    earlier p k = elim (cases_lt p (length keys)) [
      | inl i ↦
          let j : p < length before = omega (arith, i, l.many) in
          let left = get_or_append_left before (get_or heads b 0 ∷ []) 0 p j in
          let right = get_or_append_left keys (b ∷ []) 0 p i in
          rw (left, right, last_front (get_or keys p 0) keys (b ∷ []) p (omega arith)) (l.earlier p i)
      | inr i ↦
          let s : length keys ≡ p = omega (arith, i, k, long) in
          let t : length before ≡ p = omega (arith, s, l.many) in
          let left = get_or_push before (get_or heads b 0) 0 p t in
          let right = get_or_push keys b 0 p s in
          rw (left, right, last_front b keys (b ∷ []) p (omega (arith, s)), l.head b h, s) refl
    ]

linked_less : (keys heads before : List ℕ) (b old : ℕ) → b < length heads → LinksBuckets (keys ++ b ∷ []) heads (before ++ old ∷ [])
    → LinksBuckets keys (set heads b old) before
linked_less keys heads before b old h l = record { many = many; head = head; earlier = earlier }
  where
    long : length (keys ++ b ∷ []) ≡ suc (length keys)
    long = one_longer keys b

    many : length before ≡ length keys
    many = omega (arith, length-append before (old ∷ []), long, l.many)

    last : old ≡ last_code b keys (length keys)
    last =
        let w = l.earlier (length keys) (omega (arith, long)) in
        let left = get_or_push before old 0 (length keys) many in
        let right = get_or_push keys b 0 (length keys) refl in
        rw (left, right, last_front b keys (b ∷ []) (length keys) (omega arith)) at w

    head : (c : ℕ) → c < length (set heads b old) → get_or (set heads b old) c 0 ≡ last_code c keys (length keys)
    head c k = elim (cases_Bool (b == c)) [
      | inl y ↦ let e : b ≡ c = eqb-true b c y in rw (← e) (get_or-set_same heads b old 0 h ∙ last)
      | inr f ↦
          let other = get_or-set_other heads b c old 0 (differs b c f) in
          let w = l.head c (omega (arith, k, length-set heads b old)) in
          let v = rw (long, last_new c b keys, f) at w in
          other ∙ v
    ]

    earlier : (p : ℕ) → p < length keys → get_or before p 0 ≡ last_code (get_or keys p 0) keys p
    earlier p k =
        let w = l.earlier p (omega (arith, k, long)) in
        let j : p < length before = omega (arith, k, many) in
        let left = get_or_append_left before (old ∷ []) 0 p j in
        let right = get_or_append_left keys (b ∷ []) 0 p k in
        rw (left, right, last_front (get_or keys p 0) keys (b ∷ []) p (omega arith)) at w

-- ---- links of nulls

pub many_buckets : (m : ℕ) (cells : List Found) → length (buckets_of m cells) ≡ length cells
many_buckets m cells = length-map cells (λ (b : Found). bucket m b.null)

buckets_more : (m : ℕ) (cells : List Found) (cell : Found)
    → buckets_of m (cells ++ cell ∷ []) ≡ buckets_of m cells ++ bucket m cell.null ∷ []
buckets_more m cells cell = map-append (λ (b : Found). bucket m b.null) cells (cell ∷ [])

pub bound_none : (n : ℕ) (heads : List ℕ) → 0 < n → heads ≡ replicate n 0 → LinksBoundNulls [] heads []
bound_none n heads h e = record { some = rw (e, length-replicate {A = ℕ} n 0) h; linked = rw e (linked_none n) }

-- one more
pub bound_more : (cells new : List Found) (heads before next : List ℕ) (cell : Found) (b code old : ℕ) → b ≡ bucket (length heads) cell.null
    → b < length heads → code ≡ length cells → old ≡ get_or heads b 0 → new ≡ cells ++ cell ∷ [] → next ≡ before ++ old ∷ []
    → LinksBoundNulls cells heads before → LinksBoundNulls new (set heads b (code + 1)) next
bound_more cells new heads before next cell b code old e h c o n x l =
    let m : length (set heads b (code + 1)) ≡ length heads = length-set heads b (code + 1) in
    let w = linked_more (buckets_of (length heads) cells) heads before b h l.linked in
    let v = rw (many_buckets (length heads) cells, ← c, ← o, ← x) at w in
    record {
      some = omega (arith, m, l.some);
      linked = rw (m, n, buckets_more (length heads) cells cell, ← e) v;
    }

-- one less
pub bound_less : (cells front : List Found) (heads before rest : List ℕ) (cell : Found) (b old x : ℕ) (o : Option ℕ)
    → b ≡ bucket (length heads) cell.null → b < length heads → cells ≡ front ++ cell ∷ [] → before ≡ rest ++ option_to_list o
    → o ≡ Some x → old ≡ unwrap_or o 0 → LinksBoundNulls cells heads before → LinksBoundNulls front (set heads b old) rest
bound_less cells front heads before rest cell b old x o e h c d s u l =
    let m : length (set heads b old) ≡ length heads = length-set heads b old in
    let v : old ≡ x = u ∙ ap (λ (p : Option ℕ). unwrap_or p 0) s in
    let k : before ≡ rest ++ old ∷ [] = d ∙ (ap (λ (p : Option ℕ). rest ++ option_to_list p) s ∙ ap (λ y. rest ++ y ∷ []) (sym v)) in
    let w = l.linked in
    let z = rw (c, k, buckets_more (length heads) front cell, ← e) at w in
    record {
      some = omega (arith, m, l.some);
      linked = rw m (linked_less (buckets_of (length heads) front) heads rest b old h z);
    }

-- ---- a look-up

-- the next place at which the null may stand is one less than the code; it stands nowhere after that
pub record Looks (m : ℕ) (cells : List Found) (null : NullId) (code : ℕ) : Type 0 where
  pub within : code ≤ length cells
  pub key : (p : ℕ) → code ≡ suc p → get_or (buckets_of m cells) p 0 ≡ bucket m null
  pub none : (q : ℕ) → code ≤ q → q < length cells → ¬ ((found_at cells q).null ≡ null)

module _ (m : ℕ) (cells : List Found) (null : NullId) where
  bucket_at : (q : ℕ) → q < length cells → get_or (buckets_of m cells) q 0 ≡ bucket m (found_at cells q).null
  bucket_at q h = get_or-map (λ (b : Found). bucket m b.null) cells q _ 0 h

  -- the last place of the bucket below n
  looks_below : (n code : ℕ) → code ≡ last_code (bucket m null) (buckets_of m cells) n → n ≤ length cells
      → ((q : ℕ) → n ≤ q → q < length cells → ¬ ((found_at cells q).null ≡ null)) → Looks m cells null code
  looks_below n code c h old = record {
    within = let a = last_most (bucket m null) (buckets_of m cells) n in omega (arith, a, c, h);
    key = λ p e. (last_hits (bucket m null) (buckets_of m cells) n p (sym c ∙ e)).1;
    none = none;
  }
    where
      none : (q : ℕ) → code ≤ q → q < length cells → ¬ ((found_at cells q).null ≡ null)
      none q k l e = elim (cases_lt q n) [
        | inl b ↦
            let a = last_after (bucket m null) (buckets_of m cells) n q b (bucket_at q l ∙ ap (bucket m) e) in
            omega (arith, a, c, k)
        | inr b ↦ old q b l e
      ]

  pub looks_first : (heads before : List ℕ) (b code : ℕ) → m ≡ length heads → b ≡ bucket m null → b < length heads → code ≡ get_or heads b 0
      → LinksBoundNulls cells heads before → Looks m cells null code
  looks_first heads before b code d e h c l =
      let links = rw (← d) at l.linked in
      let many = many_buckets m cells in
      looks_below (length cells) code (c ∙ (links.head b h ∙ rw (e, many) refl)) (omega arith) (λ q k i. absurd (omega (arith, k, i)))

  pub looks_next : (heads before : List ℕ) (p code next : ℕ) → m ≡ length heads → code ≡ suc p → next ≡ get_or before p 0
      → LinksBoundNulls cells heads before → Looks m cells null code → ¬ ((found_at cells p).null ≡ null) → Looks m cells null next × (next < code)
  looks_next heads before p code next d e c l k differs =
      let links = rw (← d) at l.linked in
      let h : p < length cells = omega (arith, e, k.within) in
      let many = many_buckets m cells in
      let i : p < length (buckets_of m cells) = omega (arith, h, many) in
      let at : next ≡ last_code (bucket m null) (buckets_of m cells) p =
      c ∙ (links.earlier p i ∙ ap (λ j. last_code j (buckets_of m cells) p) (k.key p e)) in
      let most = last_most (bucket m null) (buckets_of m cells) p in
      (looks_below p next at (omega (arith, h)) (none h), omega (arith, at, most, e))
    where
      none : p < length cells → (q : ℕ) → p ≤ q → q < length cells → ¬ ((found_at cells q).null ≡ null)
      none h q a b = elim (cases_lt p q) [
        | inl i ↦ k.none q (omega (arith, e, i)) b
        | inr i ↦ let same : p ≡ q = omega arith in rw same at differs
      ]

  pub nowhere : (code : ℕ) → code ≡ 0 → Looks m cells null code → ¬ (null ∈ found_nulls cells)
  nowhere code z k i =
      let r = from_map (λ (b : Found). b.null) cells i in
      let j = contains_from_in r.1 in
      let same : found_at cells j.0 ≡ r.0 = get_or_default cells j.0 _ r.0 j.1 ∙ j.2 in
      k.none j.0 (omega (arith, z)) j.1 (ap (λ (b : Found). b.null) same ∙ r.2)

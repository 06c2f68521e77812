-- Items that are sorted by a key first: where the key never falls while the items rise, the order is that of the items.
use Rattle.std.proofs.Common.{◌≡◌, ◌∙◌, ◌+◌, ◌*◌, ◌-◌, ◌<◌, ◌≤◌, ◌^◌, ◌∷◌, ℕ, zero, suc, List, [], Bool, refl, sym, ap, arith, length, get_or, drop, add-one, inl, inr, IsPermutation, All, IsSortedBy, rules, below_more, ◌++◌}
use Rattle.std.specs.Prelude.{slice_index}
use Rattle.std.specs.Ordering.{is_lt, nat_cmp, ord_max, ordering_then, ordering_reverse}
use Rattle.std.specs.Cmp.{IsTotalOrder}
use Rattle.std.specs.declared.cmp.Ordering.{Ordering}
use Rattle.std.specs.declared.cmp.Ordering.TheVariants.{Less, Equal, Greater}
use Rattle.std.proofs.lemmas.Bool.{cases_lt}
use Rattle.std.proofs.lemmas.Cmp.{nat_cmp_total, on_total, then_total}
use Rattle.std.proofs.lemmas.List.{length-map, get_or-map, get_or_default, get_or_push, get_or_append_left, get_or-drop, drop-drop, length_push}
use Rattle.std.proofs.lemmas.List.Sorted.{All-permutation, IsPermutation-map}
use Rattle.std.proofs.Math.Nat.{mul-le-mul_right, pow-suc, pow-le-pow_right}
use Rattle.std.proofs.lemmas.Cmp.{nat_list_cmp_total}
use Rattle.dx_instance.specs.Cells.{PlacesInOrder, numbers_at}
use Rattle.dx_instance.proofs.OrderFacts.{places_ordered}
use Rattle.dx_instance.specs.Keys.{packed, AllSmall, DigitsFit, places_of, KeysOfFirst, RowsAreKeyed}
use Rattle.dx_instance.specs.Shown.{NumbersBelow}
use Rattle.dx_base.specs.Members.{here, there}
use Rattle.dx_base.proofs.Ranges.{nat_self, nat_less}
use Rattle.dx_instance.proofs.TableFacts.{numbers_cmp, numbers_exact}

pub from_less : (x y : ℕ) → nat_cmp x y ≡ Less → x < y
from_less x y e = elim (cases_lt x y) [
  | inl h ↦ h
  | inr h ↦ elim (cases_lt y x) [
    | inl k ↦ absurd (cc (e, nat_cmp_total.antisymm x y ∙ ap ordering_reverse (nat_less y x k)))
    | inr k ↦ let q : y ≡ x = omega arith in absurd (same x y (sym q) e)
  ]
]
  where
    same : (a b : ℕ) → a ≡ b → nat_cmp a b ≡ Less → ⊥
    same a b q l = let s : nat_cmp b b ≡ Equal = search rules in cc (rw q at l, s)

times_mono : (b p q : ℕ) → p ≤ q → p * b ≤ q * b
times_mono b p q h = mul-le-mul_right b h

-- a lower number in front gives a lower key
lower : (b n p q : ℕ) (xs ys : List ℕ) → AllSmall b n xs → p < q → packed b n p xs ≤ packed b n q ys
lower b zero p q xs ys s h = omega arith
lower b (suc n) p q [] [] s h = let t = times_mono b (p + 1) q (omega arith) in let z = s 0 (omega arith) in lower b n (p * b) (q * b) [] [] (λ i k. z) (omega (arith, t, z))
lower b (suc n) p q [] (y ∷ ys) s h = let t = times_mono b (p + 1) q (omega arith) in let z = s 0 (omega arith) in lower b n (p * b) (q * b + y) [] ys (λ i k. z) (omega (arith, t, z))
lower b (suc n) p q (x ∷ xs) [] s h = let t = times_mono b (p + 1) q (omega arith) in let z = s 0 (omega arith) in lower b n (p * b + x) (q * b) xs [] (λ i k. s (suc i) (omega arith)) (omega (arith, t, z))
lower b (suc n) p q (x ∷ xs) (y ∷ ys) s h = let t = times_mono b (p + 1) q (omega arith) in let z = s 0 (omega arith) in lower b n (p * b + x) (q * b + y) xs ys (λ i k. s (suc i) (omega arith)) (omega (arith, t, z))

least : (b n p : ℕ) (ys : List ℕ) → packed b n p [] ≤ packed b n p ys
least b zero p ys = omega arith
least b (suc n) p [] = omega arith
least b (suc n) p (y ∷ ys) = elim (cases_lt 0 y) [
  | inl h ↦ let t = raised n (p * b) (p * b + y) (omega arith) in let r = least b n (p * b + y) ys in omega (arith, t, r)
  | inr h ↦ let z : p * b + y ≡ p * b = omega arith in rw z (least b n (p * b) ys)
]
  where
    raised : (m u v : ℕ) → u ≤ v → packed b m u [] ≤ packed b m v []
    raised zero u v k = k
    raised (suc m) u v k = raised m (u * b) (v * b) (times_mono b u v k)

-- the key of a lower list is not higher
pub rises : (b n p : ℕ) (xs ys : List ℕ) → AllSmall b n xs → numbers_cmp xs ys ≡ Less → packed b n p xs ≤ packed b n p ys
rises b zero p xs ys s h = omega arith
rises b (suc n) p [] ys s h = least b (suc n) p ys
rises b (suc n) p (x ∷ xs) [] s h = absurd (cc h)
rises b (suc n) p (x ∷ xs) (y ∷ ys) s h = elim (cases_lt x y) [
  | inl l ↦ lower b n (p * b + x) (p * b + y) xs ys (λ i k. s (suc i) (omega arith)) (omega arith)
  | inr l ↦ elim (cases_lt y x) [
    | inl k ↦ let g = nat_cmp_total.antisymm x y ∙ ap ordering_reverse (nat_less y x k) in absurd (cc (rw g at h))
    | inr k ↦
        let q : x ≡ y = omega arith in
        let e : nat_cmp x y ≡ Equal = rw q (equal y) in
        rw q (rises b n (p * b + y) xs ys (λ i k. s (suc i) (omega arith)) (rw e at h))
  ]
]
  where
    equal : (z : ℕ) → nat_cmp z z ≡ Equal
    equal z = search rules

-- keys and places compare by the keys, and by the items at the places after that
abbrev pub by_key : {X : Type 0} → (X → X → Ordering) → (ℕ → X) → (ℕ × ℕ) → (ℕ × ℕ) → Ordering
by_key cmp at a b = ordering_then (nat_cmp a.0 b.0) (cmp (at a.1) (at b.1))

pub record IsKeyOf {X : Type 0} (at : ℕ → X) (key : X → ℕ) (Small : X → Type 0) (k : ℕ × ℕ) : Type 0 where
  pub key_is : k.0 ≡ key (at k.1)
  pub small : Small (at k.1)

pub all_keys : {X : Type 0} (at : ℕ → X) (key : X → ℕ) (Small : X → Type 0) (ks : List (ℕ × ℕ)) (n : ℕ) → KeysOfFirst at key Small ks n → All (IsKeyOf at key Small) ks
all_keys at key Small ks n a k d h =
    let b : k < n = omega (arith, h, a.many) in
    let same = get_or_default ks k d (0, 0) h in
    let one = a.all k b in
    let p : (get_or ks k d).1 ≡ k = ap (λ (q : ℕ × ℕ). q.1) same ∙ one.place_is in
    record { key_is = ap (λ (q : ℕ × ℕ). q.0) same ∙ rw p one.key_is; small = rw p one.small }

-- one key more
pub keyed_more : {X : Type 0} (at : ℕ → X) (key : X → ℕ) (Small : X → Type 0) (keys new : List (ℕ × ℕ)) (i k : ℕ) → length keys ≡ i → new ≡ keys ++ (k, i) ∷ [] → k ≡ key (at i) → Small (at i) → KeysOfFirst at key Small keys i → KeysOfFirst at key Small new (i + 1)
keyed_more at key Small keys new i k l n e s a = rw n (record {
  many = length_push keys (k, i) ∙ ap (λ (m : ℕ). m + 1) l;
  all = below_more _ _ (λ j h. let g = get_or_append_left keys ((k, i) ∷ []) (0, 0) j (omega (arith, h, l)) in rw g (a.all j h)) (rw last (record { key_is = e; place_is = refl; small = s }));
})
  where
    last : get_or (keys ++ (k, i) ∷ []) i (0, 0) ≡ (k, i)
    last = get_or_push keys (k, i) (0, 0) i l

-- numbers that never fall where the items rise, in front of the items
pub numbers_first : {X : Type 0} (cmp : X → X → Ordering) → IsTotalOrder cmp → ((x y : X) → cmp x y ≡ Equal → x ≡ y) → (x y : X) (k l : ℕ)
    → (cmp x y ≡ Less → k ≤ l) → (cmp y x ≡ Less → l ≤ k) → (x ≡ y → k ≡ l) → ordering_then (nat_cmp k l) (cmp x y) ≡ cmp x y
numbers_first cmp total exact x y k l up down level = by (cmp x y) refl
  where
    by : (o : Ordering) → cmp x y ≡ o → ordering_then (nat_cmp k l) (cmp x y) ≡ cmp x y
    by Less e =
        let m = up e in
        elim (cases_lt k l) [
          | inl h ↦ rw (nat_less k l h) (sym e)
          | inr h ↦ let s : k ≡ l = omega (arith, m, h) in rw (s, nat_self l) refl
        ]
    by Equal e = let s = level (exact x y e) in rw (s, nat_self l) refl
    by Greater e =
        let m = down (total.antisymm y x ∙ ap ordering_reverse e) in
        elim (cases_lt l k) [
          | inl h ↦ let g = nat_cmp_total.antisymm k l ∙ ap ordering_reverse (nat_less l k h) in rw g (sym e)
          | inr h ↦ let s : k ≡ l = omega (arith, m, h) in rw (s, nat_self l) refl
        ]

module _ {X : Type 0} (cmp : X → X → Ordering) (total : IsTotalOrder cmp) (exact : (x y : X) → cmp x y ≡ Equal → x ≡ y) (at : ℕ → X) (key : X → ℕ) (Small : X → Type 0)
    (up : (x y : X) → Small x → Small y → cmp x y ≡ Less → key x ≤ key y) where
  pub by_key_total : IsTotalOrder (by_key cmp at)
  by_key_total = then_total (on_total (λ (k : ℕ × ℕ). k.0) nat_cmp_total) (on_total (λ (k : ℕ × ℕ). at k.1) total)

  tells : (a b : ℕ × ℕ) → IsKeyOf at key Small a → IsKeyOf at key Small b → by_key cmp at a b ≡ cmp (at a.1) (at b.1)
  tells a b p q = numbers_first cmp total exact (at a.1) (at b.1) a.0 b.0
      (λ e. let l = up (at a.1) (at b.1) p.small q.small e in omega (arith, l, p.key_is, q.key_is))
      (λ e. let l = up (at b.1) (at a.1) q.small p.small e in omega (arith, l, p.key_is, q.key_is)) (λ e. p.key_is ∙ ap key e ∙ sym q.key_is)

  -- places that are sorted by their keys are sorted by their items
  pub keys_sorted : (ks : List (ℕ × ℕ)) → All (IsKeyOf at key Small) ks → IsSortedBy (λ a b. is_lt (by_key cmp at a b)) ks → IsSortedBy (λ p q. is_lt (cmp (at p) (at q))) (places_of ks)
  keys_sorted ks each s k d low h =
      let many = length-map ks (λ (p : ℕ × ℕ). p.1) in
      let e : ℕ × ℕ = (0, d) in
      let hb : k + 1 < length ks = omega (arith, many, h) in
      let x = get_or-map (λ (p : ℕ × ℕ). p.1) ks (k + 1) e d hb in
      let y = get_or-map (λ (p : ℕ × ℕ). p.1) ks k e d (omega (arith, hb)) in
      let t = tells (get_or ks (k + 1) e) (get_or ks k e) (each (k + 1) e hb) (each k e (omega (arith, hb))) in
      rw (x, y) (ap is_lt (sym t) ∙ s k e low hb)

abbrev pub row_key_lt : List (List ℕ) → (ℕ × ℕ) → (ℕ × ℕ) → Bool
row_key_lt rows a b = is_lt (by_key numbers_cmp (numbers_at rows) a b)

module _ (b n : ℕ) where
  row_rises : (x y : List ℕ) → AllSmall b n x → AllSmall b n y → numbers_cmp x y ≡ Less → packed b n 0 x ≤ packed b n 0 y
  row_rises x y s t h = rises b n 0 x y s h

  pub row_key_total : (rows : List (List ℕ)) → IsTotalOrder (by_key numbers_cmp (numbers_at rows))
  row_key_total rows = by_key_total numbers_cmp nat_list_cmp_total numbers_exact (numbers_at rows) (packed b n 0) (AllSmall b n) row_rises

  -- what a sort of the keyed places comes to
  pub keys_ordered : (rows : List (List ℕ)) (ks qs : List (ℕ × ℕ)) → RowsAreKeyed b n rows ks (length rows) → IsPermutation ks qs → IsSortedBy (row_key_lt rows) qs → PlacesInOrder rows (places_of qs)
  keys_ordered rows ks qs a p s =
      places_ordered rows (places_of ks) (places_of qs) (length-map ks (λ (k : ℕ × ℕ). k.1) ∙ a.many) (λ k h. get_or-map (λ (q : ℕ × ℕ). q.1) ks k (0, 0) 0 (omega (arith, h, a.many)) ∙ (a.all k h).place_is)
      (IsPermutation-map (λ (k : ℕ × ℕ). k.1) ks qs p) (keys_sorted numbers_cmp nat_list_cmp_total numbers_exact (numbers_at rows) (packed b n 0) (AllSmall b n) row_rises qs
      (All-permutation (IsKeyOf (numbers_at rows) (packed b n 0) (AllSmall b n)) ks qs p (all_keys (numbers_at rows) (packed b n 0) (AllSmall b n) ks (length rows) a)) s)

pub place_read : (keys : List (ℕ × ℕ)) (i : ℕ) (k : ℕ × ℕ) → i < length (places_of keys) → k ≡ get_or keys i k → k.1 ≡ get_or (places_of keys) i 0
place_read keys i k h e = ap (λ (q : ℕ × ℕ). q.1) e ∙ sym (get_or-map (λ (q : ℕ × ℕ). q.1) keys i k 0 (omega (arith, h, length-map keys (λ (q : ℕ × ℕ). q.1))))

-- one digit more
pub packed_step : (b n p : ℕ) (xs : List ℕ) → packed b (suc n) p xs ≡ packed b n (p * b + slice_index xs 0) (drop 1 xs)
packed_step b n p [] = let z : p * b + 0 ≡ p * b = omega arith in rw z refl
packed_step b n p (x ∷ xs) = refl

-- a number with one digit more, and what is left to read
pub digit_more : (b n i key digit : ℕ) (xs : List ℕ) → i < n → digit ≡ slice_index xs i → packed b (n - i) key (drop i xs) ≡ packed b n 0 xs → packed b (n - (i + 1)) (key * b + digit) (drop (i + 1) xs) ≡ packed b n 0 xs
digit_more b n i key digit xs h e r =
    let m : n - i ≡ suc (n - (i + 1)) = omega (arith, h) in
    let head : slice_index (drop i xs) 0 ≡ digit = get_or-drop i xs 0 0 ∙ (let z : i + 0 ≡ i = omega arith in ap (λ (j : ℕ). get_or xs j 0) z) ∙ sym e in
    let one = packed_step b (n - (i + 1)) key (drop i xs) in
    let whole : packed b (n - i) key (drop i xs) ≡ packed b (n - (i + 1)) (key * b + digit) (drop (i + 1) xs) =
    ap (λ (k : ℕ). packed b k key (drop i xs)) m ∙ one ∙ (λ j. packed b (n - (i + 1)) (key * b + head j) (drop-drop 1 i xs j)) in
    sym whole ∙ r

pub digit_fits : (b n i key digit : ℕ) → DigitsFit b n → i < n → key < b ^ i → digit < b → (key * b + digit < b ^ (i + 1)) × (key * b + digit < 2 ^ 64)
digit_fits b n i key digit room h k d =
    let s : b ^ (i + 1) ≡ b ^ i * b = ap (λ (m : ℕ). b ^ m) (add-one i) ∙ pow-suc b i in
    let most : b ^ (i + 1) ≤ b ^ n = pow-le-pow_right {n = b} room.some {i = i + 1} {j = n} (omega (arith, h)) in
    let up = mul-le-mul_right b (suc_below k) in
    let f = room.fits in
    (omega (arith, s, up, d), omega (arith, s, up, d, most, f))
  where
    suc_below : {x y : ℕ} → x < y → x + 1 ≤ y
    suc_below k = omega (arith, k)

bytes_fit : DigitsFit 256 8
bytes_fit = record { some = omega arith; fits = omega arith }

pub byte_more : (text : List ℕ) (i key byte : ℕ) → i < 8 → byte ≡ slice_index text i → packed 256 (8 - i) key (drop i text) ≡ packed 256 8 0 text → packed 256 (8 - (i + 1)) (key * 256 + byte) (drop (i + 1) text) ≡ packed 256 8 0 text
byte_more text i key byte h e r = digit_more 256 8 i key byte text h e r

pub byte_fits : (i key byte : ℕ) → i < 8 → key < 256 ^ i → byte < 256 → (key * 256 + byte < 256 ^ (i + 1)) × (key * 256 + byte < 2 ^ 64)
byte_fits i key byte h b c = digit_fits 256 8 i key byte bytes_fit h b c

-- numbers that are all below a bound, and 0 after them
pub below_small : (b n : ℕ) (xs : List ℕ) → 0 < b → NumbersBelow b xs → AllSmall b n xs
below_small b n xs z a i h = at xs i a
  where
    at : (ys : List ℕ) (k : ℕ) → NumbersBelow b ys → slice_index ys k < b
    at [] k f = z
    at (y ∷ ys) zero f = f y (here refl)
    at (y ∷ ys) (suc k) f = at ys k (λ x m. f x (there m))

pub below_more_bound : (b c : ℕ) (xs : List ℕ) → b ≤ c → NumbersBelow b xs → NumbersBelow c xs
below_more_bound b c xs h f x m = let l = f x m in omega (arith, l, h)

-- the greater of two numbers
pub record IsGreater (a b m : ℕ) : Type 0 where
  pub first : a ≤ m
  pub second : b ≤ m
  pub least : (n : ℕ) → a ≤ n → b ≤ n → m ≤ n

pub max_is : (a b m : ℕ) → m ≡ ord_max nat_cmp a b → IsGreater a b m
max_is a b m s = elim (cases_lt b a) [
  | inl h ↦
      let e : m ≡ a = s ∙ rw (nat_less b a h) refl in
      record { first = omega (arith, e); second = omega (arith, e, h); least = λ n p q. omega (arith, e, p) }
  | inr h ↦ elim (cases_lt a b) [
    | inl k ↦
        let g : nat_cmp b a ≡ Greater = nat_cmp_total.antisymm b a ∙ ap ordering_reverse (nat_less a b k) in
        let e : m ≡ b = s ∙ rw g refl in
        record { first = omega (arith, e, k); second = omega (arith, e); least = λ n p q. omega (arith, e, q) }
    | inr k ↦
        let q : a ≡ b = omega (arith, h, k) in
        let e : m ≡ b = s ∙ ap (λ (x : ℕ). ord_max nat_cmp x b) q ∙ rw (nat_self b) refl in
        record { first = omega (arith, e, q); second = omega (arith, e); least = λ n u v. omega (arith, e, v) }
  ]
]

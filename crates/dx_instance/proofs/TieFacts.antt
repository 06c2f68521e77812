-- Values that are sorted by two keys of eight bytes each, with the lengths of short texts between them, and by the values
-- where all are equal.
use Rattle.std.proofs.Common.{◌≡◌, ◌∙◌, ◌+◌, ◌<◌, ◌≤◌, ◌∷◌, ◌++◌, ℕ, List, [], Bool, refl, sym, ap, subst, arith, length, get_or, inl, inr, All, IsSortedBy, below_more}
use Rattle.std.specs.Prelude.{◌↔◌, IsTrue, slice_index}
use Rattle.std.specs.Ordering.{is_eq, is_lt, nat_cmp, ordering_then, ordering_reverse}
use Rattle.std.specs.Cmp.{IsTotalOrder}
use Rattle.std.specs.declared.cmp.Ordering.{Ordering}
use Rattle.std.specs.declared.cmp.Ordering.TheVariants.{Less, Equal, Greater}
use Rattle.std.proofs.lemmas.Bool.{cases_lt}
use Rattle.std.proofs.lemmas.Cmp.{nat_cmp_total, on_total, then_total}
use Rattle.std.proofs.lemmas.List.{get_or_append_left, get_or_default, get_or_push, length_push}
use Rattle.dx_model.specs.declared.values.Value.{Value}
use Rattle.dx_model.specs.declared.values.Value.TheVariants.{Const, Null}
use Rattle.dx_model.specs.Values.{value_cmp}
use Rattle.dx_model.proofs.Orders.{value_total, value_exact}
use Rattle.dx_instance.specs.Keys.{SecondKeys, SecondKeysOrNone, IsKeyIn, IsSecondOf, IsSmallSecond, IsSmallValue, if_less, if_long, long_cmp, second_key, tie_cmp, value_key}
use Rattle.dx_instance.specs.Ranks.{ShortLengths, IsShortLength}
use Rattle.dx_instance.specs.Numbers.{value_of}
use Rattle.dx_instance.proofs.HalfFacts.{halves, small_halves}
use Rattle.dx_instance.proofs.NumberFacts.{self_equal}
use Rattle.dx_instance.proofs.ShortFacts.{lengths_rise, lengths_same, shorts_same}
use Rattle.dx_base.proofs.Ranges.{nat_less, nat_self}
use Rattle.dx_instance.proofs.KeyFacts.{IsKeyOf, by_key, numbers_first, rises}

-- one second key more
pub seconds_more : (S : List Value) (seconds new : List ℕ) (i k : ℕ) → new ≡ seconds ++ k ∷ [] → IsSecondOf (value_of S i) k → SecondKeys S seconds i → SecondKeys S new (i + 1)
seconds_more S seconds new i k n s a = rw n (record {
  many = length_push seconds k ∙ ap (λ (m : ℕ). m + 1) a.many;
  all = below_more _ _ (λ j h. let g = get_or_append_left seconds (k ∷ []) 0 j (omega (arith, h, a.many)) in rw g (a.all j h)) (let g = get_or_push seconds k 0 i a.many in rw g s);
})

-- where the first keys are equal, the second key of a lower value is not higher
second_rises : (x y : Value) → IsSmallValue x → IsSmallSecond x → value_key x ≡ value_key y → value_cmp x y ≡ Less → second_key x ≤ second_key y
second_rises (Const t) (Const u) a b e h =
    let r = rises 256 16 0 t u (small_halves t a.0 b.0) h in
    let l = halves t in
    let m = halves u in
    omega (arith, r, l, m, e)
second_rises (Const t) (Null n) a b e h = omega (arith, b.1)
second_rises (Null m) (Const u) a b e h = absurd (cc h)
second_rises (Null m) (Null n) a b e h = omega arith

seconds_tell : (x y : Value) (k l : ℕ) → IsSmallValue x → IsSmallValue y → IsSecondOf x k → IsSecondOf y l → value_key x ≡ value_key y → ordering_then (nat_cmp k l) (value_cmp x y) ≡ value_cmp x y
seconds_tell x y k l a b p q e = numbers_first value_cmp value_total value_exact x y k l
    (λ h. let r = second_rises x y a p.small e h in omega (arith, r, p.key_is, q.key_is))
    (λ h. let r = second_rises y x b q.small (sym e) h in omega (arith, r, p.key_is, q.key_is)) (λ s. p.key_is ∙ ap second_key s ∙ sym q.key_is)

-- lengths first, and what is left of a comparison only if both are long: it comes to the comparison of the values
tie_tells : (x y blank : Value) (l m s r : ℕ) → IsShortLength x l → IsShortLength y m → IsSmallValue x → IsSmallValue y → value_key x ≡ value_key y → ordering_then (nat_cmp s r) (value_cmp x y) ≡ value_cmp x y
    → ordering_then (nat_cmp l m) (ordering_then (nat_cmp (if_less (nat_cmp l 9) 0 s) (if_less (nat_cmp m 9) 0 r)) (value_cmp (if_less (nat_cmp l 9) blank x) (if_less (nat_cmp m 9) blank y))) ≡ value_cmp x y
tie_tells x y blank l m s r p q a b e long = elim (cases_lt l m) [
  | inl h ↦ let g = nat_less l m h in rw g (rw g at first)
  | inr h ↦ elim (cases_lt m l) [
    | inl k ↦ let g : nat_cmp l m ≡ Greater = nat_cmp_total.antisymm l m ∙ ap ordering_reverse (nat_less m l k) in rw g (rw g at first)
    | inr k ↦ let same : l ≡ m = omega (arith, h, k) in level same
  ]
]
  where
    first : ordering_then (nat_cmp l m) (value_cmp x y) ≡ value_cmp x y
    first = numbers_first value_cmp value_total value_exact x y l m (lengths_rise x y l m p q a b e) (lengths_rise y x m l q p b a (sym e))
        (λ i. lengths_same x l m p (subst (λ (v : Value). IsShortLength v m) (sym i) q))

    level : l ≡ m → ordering_then (nat_cmp l m) (ordering_then (nat_cmp (if_less (nat_cmp l 9) 0 s) (if_less (nat_cmp m 9) 0 r)) (value_cmp (if_less (nat_cmp l 9) blank x) (if_less (nat_cmp m 9) blank y))) ≡ value_cmp x y
    level i = elim (cases_lt m 9) [
      | inl k ↦
          let one : x ≡ y = shorts_same x y m (omega (arith, k)) (subst (λ (n : ℕ). IsShortLength x n) i p) q a b e in
          rw (i, nat_self m, nat_less m 9 k, self_equal blank, one) (sym (self_equal y))
      | inr k ↦ let nine : m ≡ 9 = omega (arith, k, q.most) in rw (i, nine, nat_self 9) long
    ]

equal_same : (x y : ℕ) → nat_cmp x y ≡ Equal → x ≡ y
equal_same x y e = elim (cases_lt x y) [
  | inl h ↦ absurd (cc (e, nat_less x y h))
  | inr h ↦ elim (cases_lt y x) [
    | inl k ↦ absurd (cc (e, nat_cmp_total.antisymm x y ∙ ap ordering_reverse (nat_less y x k)))
    | inr k ↦ omega (arith, h, k)
  ]
]

-- short texts of one length tie
pub short_tie : (S : List Value) (lengths seconds : List ℕ) (blank : Value) (m n l k : ℕ) → l ≡ slice_index lengths m → k ≡ slice_index lengths n → nat_cmp l k ≡ Equal → l ≤ 8 → tie_cmp S lengths seconds blank m n ≡ Equal
short_tie S lengths seconds blank m n l k p q e h =
    let same : l ≡ k = equal_same l k e in
    let low : nat_cmp k 9 ≡ Less = nat_less k 9 (omega (arith, same, h)) in
    rw (← p, ← q, same, nat_self k, low, self_equal blank) refl

-- keys and numbers compare by the keys, then by lengths and second keys, and by the values after that
abbrev pub number_ties : List Value → List ℕ → List ℕ → Value → (ℕ × ℕ) → (ℕ × ℕ) → Ordering
number_ties S lengths seconds blank a b = ordering_then (nat_cmp a.0 b.0) (tie_cmp S lengths seconds blank a.1 b.1)

abbrev pub number_ties_lt : List Value → List ℕ → List ℕ → Value → (ℕ × ℕ) → (ℕ × ℕ) → Bool
number_ties_lt S lengths seconds blank a b = is_lt (number_ties S lengths seconds blank a b)

pub number_ties_total : (S : List Value) (lengths seconds : List ℕ) (blank : Value) → IsTotalOrder (number_ties S lengths seconds blank)
number_ties_total S lengths seconds blank =
    then_total (on_total (λ (k : ℕ × ℕ). k.0) nat_cmp_total) (then_total (on_total (λ (k : ℕ × ℕ). slice_index lengths k.1) nat_cmp_total)
    (then_total (on_total (λ (k : ℕ × ℕ). if_long lengths 0 (slice_index seconds) k.1) nat_cmp_total) (on_total (λ (k : ℕ × ℕ). if_long lengths blank (λ n. get_or S n blank) k.1) value_total)))

module _ (S : List Value) (lengths seconds : List ℕ) (blank : Value) where
  second_at : SecondKeys S seconds (length S) → (n : ℕ) → n < length S → IsSecondOf (get_or S n blank) (slice_index seconds n)
  second_at a n h = subst (λ (v : Value). IsSecondOf v (slice_index seconds n)) (sym (get_or_default S n blank (Const []) h)) (a.all n h)

  second_tells : SecondKeysOrNone S seconds → (m n : ℕ) → m < length S → n < length S → IsSmallValue (get_or S m blank) → IsSmallValue (get_or S n blank) → value_key (get_or S m blank) ≡ value_key (get_or S n blank)
      → long_cmp S seconds blank m n ≡ value_cmp (get_or S m blank) (get_or S n blank)
  second_tells (inl none) m n b c p q e = rw none refl
  second_tells (inr a) m n b c p q e = seconds_tell (get_or S m blank) (get_or S n blank) (slice_index seconds m) (slice_index seconds n) p q (second_at a m b) (second_at a n c) e

  length_at : ShortLengths S lengths (length S) → (n : ℕ) → n < length S → IsShortLength (get_or S n blank) (slice_index lengths n)
  length_at a n h = subst (λ (v : Value). IsShortLength v (slice_index lengths n)) (sym (get_or_default S n blank (Const []) h)) (a.all n h)

  pub tie_is : ShortLengths S lengths (length S) → SecondKeysOrNone S seconds → (m n : ℕ) → m < length S → n < length S → IsSmallValue (get_or S m blank) → IsSmallValue (get_or S n blank) → value_key (get_or S m blank) ≡ value_key (get_or S n blank)
      → tie_cmp S lengths seconds blank m n ≡ value_cmp (get_or S m blank) (get_or S n blank)
  tie_is l s m n b c p q e =
      tie_tells (get_or S m blank) (get_or S n blank) blank (slice_index lengths m) (slice_index lengths n) (slice_index seconds m) (slice_index seconds n) (length_at l m b) (length_at l n c) p q e (second_tells s m n b c p q e)

  ties_tell : ShortLengths S lengths (length S) → SecondKeysOrNone S seconds → (a b : ℕ × ℕ) → a.1 < length S → b.1 < length S → IsKeyOf (λ n. get_or S n blank) value_key IsSmallValue a → IsKeyOf (λ n. get_or S n blank) value_key IsSmallValue b
      → number_ties S lengths seconds blank a b ≡ by_key value_cmp (λ n. get_or S n blank) a b
  ties_tell l s a b m n p q = elim (cases_lt a.0 b.0) [
    | inl h ↦ let g = nat_less a.0 b.0 h in rw g refl
    | inr h ↦ elim (cases_lt b.0 a.0) [
      | inl k ↦ let g : nat_cmp a.0 b.0 ≡ Greater = nat_cmp_total.antisymm a.0 b.0 ∙ ap ordering_reverse (nat_less b.0 a.0 k) in rw g refl
      | inr k ↦
          let same : a.0 ≡ b.0 = omega (arith, h, k) in
          let t = tie_is l s a.1 b.1 m n p.small q.small (sym p.key_is ∙ same ∙ q.key_is) in
          ap (λ (o : Ordering). ordering_then (nat_cmp a.0 b.0) o) t
    ]
  ]

  -- what is sorted by all of these is sorted by the keys
  pub ties_sorted : (ks : List (ℕ × ℕ)) → ShortLengths S lengths (length S) → SecondKeysOrNone S seconds → All (λ (k : ℕ × ℕ). k.1 < length S) ks → All (IsKeyOf (λ n. get_or S n blank) value_key IsSmallValue) ks
      → IsSortedBy (number_ties_lt S lengths seconds blank) ks → IsSortedBy (λ a b. is_lt (by_key value_cmp (λ n. get_or S n blank) a b)) ks
  ties_sorted ks l a small each s k d low h =
      let hb : k < length ks = omega (arith, h) in
      let t = ties_tell l a (get_or ks (k + 1) d) (get_or ks k d) (small (k + 1) d h) (small k d hb) (each (k + 1) d h) (each k d hb) in
      ap is_lt (sym t) ∙ s k d low h

  -- two keys of one place in the order stand for one value, and others for two
  tie_of : ShortLengths S lengths (length S) → SecondKeysOrNone S seconds → (a b : ℕ × ℕ) → IsKeyIn S a → IsKeyIn S b → a.0 ≡ b.0 → tie_cmp S lengths seconds blank a.1 b.1 ≡ value_cmp (value_of S a.1) (value_of S b.1)
  tie_of l s a b p q e =
      let x = get_or_default S a.1 blank (Const []) p.below in
      let y = get_or_default S b.1 blank (Const []) q.below in
      let k : value_key (value_of S a.1) ≡ value_key (value_of S b.1) = sym p.keyed.key_is ∙ e ∙ q.keyed.key_is in
      tie_is l s a.1 b.1 p.below q.below (rw x p.keyed.small) (rw y q.keyed.small) (rw (x, y) k) ∙ (λ i. value_cmp (x i) (y i))

  same_tie : ShortLengths S lengths (length S) → SecondKeysOrNone S seconds → (a b : ℕ × ℕ) → IsKeyIn S a → IsKeyIn S b → a.0 ≡ b.0 → tie_cmp S lengths seconds blank a.1 b.1 ≡ Equal → value_of S a.1 ≡ value_of S b.1
  same_tie l s a b p q e t = value_exact (value_of S a.1) (value_of S b.1) (sym (tie_of l s a b p q e) ∙ t)

  tie_same : ShortLengths S lengths (length S) → SecondKeysOrNone S seconds → (a b : ℕ × ℕ) → IsKeyIn S a → IsKeyIn S b → a.0 ≡ b.0 → value_of S a.1 ≡ value_of S b.1 → tie_cmp S lengths seconds blank a.1 b.1 ≡ Equal
  tie_same l s a b p q e v = tie_of l s a b p q e ∙ ap (λ (w : Value). value_cmp w (value_of S b.1)) v ∙ self_equal (value_of S b.1)

-- a comparison that says whether two keys stand for one value
pub decides : (S : List Value) (lengths seconds : List ℕ) (blank : Value) (a b : ℕ × ℕ) (o : Ordering) (t : Bool) → ShortLengths S lengths (length S) → SecondKeysOrNone S seconds → IsKeyIn S a → IsKeyIn S b → a.0 ≡ b.0
    → o ≡ tie_cmp S lengths seconds blank a.1 b.1 → t ≡ is_eq o → IsTrue t ↔ (value_of S a.1 ≡ value_of S b.1)
decides S lengths seconds blank a b o t l s p q e w d = rw d (by o w)
  where
    by : (r : Ordering) → r ≡ tie_cmp S lengths seconds blank a.1 b.1 → IsTrue (is_eq r) ↔ (value_of S a.1 ≡ value_of S b.1)
    by Less g = ((λ z. absurd (cc z)), (λ v. absurd (cc (g, tie_same S lengths seconds blank l s a b p q e v))))
    by Equal g = ((λ z. same_tie S lengths seconds blank l s a b p q e (sym g)), (λ v. refl))
    by Greater g = ((λ z. absurd (cc z)), (λ v. absurd (cc (g, tie_same S lengths seconds blank l s a b p q e v))))

pub one_key : (S : List Value) (a b : ℕ × ℕ) → IsKeyIn S a → IsKeyIn S b → value_of S a.1 ≡ value_of S b.1 → a.0 ≡ b.0
one_key S a b p q v = p.keyed.key_is ∙ ap value_key v ∙ sym q.keyed.key_is

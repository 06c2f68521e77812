-- Numbers in the order of their values: each old number has a rank.
use Rattle.std.proofs.Common.{◌≡◌, ◌∙◌, ◌+◌, ◌-◌, ◌<◌, ◌≤◌, ◌⊎◌, ℕ, List, [], Bool, true, false, not, refl, sym, ap, subst, arith, length, get_or, inl, inr, All, Contains, IsPermutation, IsSortedBy}
use Rattle.std.specs.Prelude.{◌↔◌, IsTrue, MatchBool}
use Rattle.std.specs.Ordering.{is_lt, ordering_reverse}
use Rattle.std.specs.declared.cmp.Ordering.{Ordering}
use Rattle.std.specs.declared.cmp.Ordering.TheVariants.{Less, Equal, Greater}
use Rattle.std.proofs.lemmas.Bool.{cases_lt}
use Rattle.std.proofs.lemmas.List.{length-map, get_or-map, get_or_default}
use Rattle.std.proofs.lemmas.List.Sorted.{Contains-permutation, All-permutation, IsPermutation-map, length_permutation}
use Rattle.dx_model.specs.declared.values.Value.{Value}
use Rattle.dx_model.specs.declared.values.Value.TheVariants.{Const, Null}
use Rattle.dx_model.specs.Values.{value_cmp}
use Rattle.dx_model.proofs.Orders.{value_total, value_exact}
use Rattle.dx_base.specs.Members.{◌∈◌}
use Rattle.dx_base.proofs.Members.{in_from_contains}
use Rattle.dx_instance.specs.Numbers.{ValuesDiffer, ValuesAscend, value_of}
use Rattle.dx_instance.specs.Keys.{SecondKeysOrNone, SortsNumbers, IsKeyIn, IsKeyAndPlace, IsRepeat, IsRise, IsSmallValue, NumbersAreKeyed, ValuesAreKeyed, places_of, value_key}
use Rattle.dx_instance.specs.Ranks.{ShortLengths}
use Rattle.dx_instance.proofs.NumberFacts.{self_equal}
use Rattle.dx_instance.proofs.KeyFacts.{IsKeyOf, keys_sorted, rises}
use Rattle.dx_instance.proofs.TieFacts.{number_ties_lt, ties_sorted}

pub number_read : (ps : List (ℕ × ℕ)) (i : ℕ) (d : ℕ × ℕ) → i < length ps → (get_or ps i d).1 ≡ get_or (places_of ps) i 0
number_read ps i d h = sym (get_or-map (λ (p : ℕ × ℕ). p.1) ps i d 0 h)

pub same_or_not : (m n : ℕ) → (m ≡ n) ⊎ (m ≡ n → ⊥)
same_or_not m n = elim (cases_lt m n) [
  | inl h ↦ inr (λ e. omega (arith, e))
  | inr h ↦ elim (cases_lt n m) [ inl k ↦ inr (λ e. omega (arith, e)) | inr k ↦ inl (omega arith) ]
]

-- ascending values are distinct
pub ascend_apart : (xs : List Value) → ValuesAscend xs → ValuesDiffer xs
ascend_apart xs up i j d h k e =
    let l = up i j d h k in
    let s = self_equal (get_or xs j d) in
    cc (rw e at l, s)

value_rises : (x y : Value) → IsSmallValue x → IsSmallValue y → value_cmp x y ≡ Less → value_key x ≤ value_key y
value_rises (Const t) (Const u) a b h = rises 256 8 0 t u a.0 h
value_rises (Const t) (Null n) a b h = omega (arith, a.1)
value_rises (Null m) (Const u) a b h = absurd (cc h)
value_rises (Null m) (Null n) a b h = omega arith

-- what a sort of the keyed numbers comes to
pub sorted_numbers : (S : List Value) (lengths seconds : List ℕ) (blank : Value) (ks qs : List (ℕ × ℕ)) → ValuesAreKeyed S ks (length S) → ShortLengths S lengths (length S) → SecondKeysOrNone S seconds → IsPermutation ks qs
    → IsSortedBy (number_ties_lt S lengths seconds blank) qs → SortsNumbers S (places_of qs)
sorted_numbers S lengths seconds blank ks qs keyed short second p s = record { many = many; within = λ k h. small k 0 h; all = all; rise = rise }
  where
    at : ℕ → Value
    at n = get_or S n blank

    perm : IsPermutation (places_of ks) (places_of qs)
    perm = IsPermutation-map (λ (k : ℕ × ℕ). k.1) ks qs p

    first_many : length (places_of ks) ≡ length S
    first_many = length-map ks (λ (k : ℕ × ℕ). k.1) ∙ keyed.many

    first_at : (k : ℕ) → k < length S → get_or (places_of ks) k 0 ≡ k
    first_at k h = get_or-map (λ (q : ℕ × ℕ). q.1) ks k (0, 0) 0 (omega (arith, h, keyed.many)) ∙ (keyed.all k h).place_is

    many : length (places_of qs) ≡ length S
    many = length_permutation (places_of ks) (places_of qs) perm ∙ first_many

    first_small : All (λ (x : ℕ). x < length S) (places_of ks)
    first_small k d h =
        let b : k < length S = omega (arith, h, first_many) in
        let q = get_or_default (places_of ks) k d 0 h ∙ first_at k b in
        omega (arith, q, b)

    small : All (λ (x : ℕ). x < length S) (places_of qs)
    small = All-permutation (λ (x : ℕ). x < length S) (places_of ks) (places_of qs) perm first_small

    all : (x : ℕ) → x < length S → x ∈ places_of qs
    all x h =
        let b : x < length (places_of ks) = omega (arith, h, first_many) in
        let c : Contains (places_of ks) x = (x, b, get_or_default (places_of ks) x x 0 b ∙ first_at x h) in
        in_from_contains (places_of qs) x (Contains-permutation (places_of ks) (places_of qs) x perm c)

    each : All (IsKeyOf at value_key IsSmallValue) ks
    each k d h =
        let b : k < length S = omega (arith, h, keyed.many) in
        let same = get_or_default ks k d (0, 0) h in
        let one = keyed.all k b in
        let place : (get_or ks k d).1 ≡ k = ap (λ (q : ℕ × ℕ). q.1) same ∙ one.place_is in
        let v : at (get_or ks k d).1 ≡ value_of S k = ap at place ∙ get_or_default S k blank (Const []) b in
        record { key_is = ap (λ (q : ℕ × ℕ). q.0) same ∙ one.key_is ∙ ap value_key (sym v); small = subst IsSmallValue (sym v) one.small }

    each_moved : All (IsKeyOf at value_key IsSmallValue) qs
    each_moved = All-permutation (IsKeyOf at value_key IsSmallValue) ks qs p each

    below : All (λ (k : ℕ × ℕ). k.1 < length S) qs
    below k d h =
        let n = number_read qs k d h in
        let b = small k 0 (omega (arith, h, length-map qs (λ (q : ℕ × ℕ). q.1))) in
        omega (arith, n, b)

    up : IsSortedBy (λ x y. is_lt (value_cmp (at x) (at y))) (places_of qs)
    up = keys_sorted value_cmp value_total value_exact at value_key IsSmallValue value_rises qs each_moved (ties_sorted S lengths seconds blank qs short second below each_moved s)

    rise : (k : ℕ) → k + 1 < length (places_of qs) → ¬ (value_cmp (value_of S (get_or (places_of qs) (k + 1) 0)) (value_of S (get_or (places_of qs) k 0)) ≡ Less)
    rise k h e =
        let low = up k 0 (omega arith) h in
        let x = get_or_default S (get_or (places_of qs) (k + 1) 0) blank (Const []) (small (k + 1) 0 h) in
        let y = get_or_default S (get_or (places_of qs) k 0) blank (Const []) (small k 0 (omega (arith, h))) in
        absurd (cc (rw (x, y) at low, e))

-- the number of a key that is among those sorted
pub key_in : (S : List Value) (keys : List (ℕ × ℕ)) (i : ℕ) → SortsNumbers S (places_of keys) → NumbersAreKeyed S keys → i < length keys → IsKeyIn S (get_or keys i (0, 0))
key_in S keys i s keyed h =
    let n = number_read keys i (0, 0) h in
    let b = s.within i (omega (arith, h, length-map keys (λ (q : ℕ × ℕ). q.1))) in
    record { below = omega (arith, n, b); keyed = keyed i h }

-- a value that is not the one before it is above it
pub rise_here : (S : List Value) (numbers : List ℕ) (i : ℕ) → SortsNumbers S numbers → i < length numbers → ¬ (value_of S (get_or numbers (i - 1) 0) ≡ value_of S (get_or numbers i 0)) → IsRise S numbers i
rise_here S numbers i s h n z =
    let one : (i - 1) + 1 ≡ i = omega (arith, z) in
    above (value_of S (get_or numbers (i - 1) 0)) (value_of S (get_or numbers i 0)) n (rw one at (s.rise (i - 1) (omega (arith, one, h))))
  where
    above : (x y : Value) → ¬ (x ≡ y) → ¬ (value_cmp y x ≡ Less) → value_cmp x y ≡ Less
    above x y d r = by (value_cmp x y) refl
      where
        by : (o : Ordering) → value_cmp x y ≡ o → value_cmp x y ≡ Less
        by Less e = e
        by Equal e = absurd (d (value_exact x y e))
        by Greater e = absurd (r (value_total.antisymm y x ∙ ap ordering_reverse e))

-- the first that stands for a value, or one more
pub first_or_repeat : (S : List Value) (keys : List (ℕ × ℕ)) (i : ℕ) (b : Bool) → SortsNumbers S (places_of keys) → i < length keys → 0 < i → (IsTrue b ↔ (value_of S (get_or keys (i - 1) (0, 0)).1 ≡ value_of S (get_or keys i (0, 0)).1))
    → MatchBool (not b) (IsRise S (places_of keys) i) (IsRepeat S (places_of keys) i)
first_or_repeat S keys i b s h z same = by b same
  where
    long : length (places_of keys) ≡ length keys
    long = length-map keys (λ (k : ℕ × ℕ). k.1)

    x : value_of S (get_or keys (i - 1) (0, 0)).1 ≡ value_of S (get_or (places_of keys) (i - 1) 0)
    x = ap (value_of S) (number_read keys (i - 1) (0, 0) (omega (arith, h)))

    y : value_of S (get_or keys i (0, 0)).1 ≡ value_of S (get_or (places_of keys) i 0)
    y = ap (value_of S) (number_read keys i (0, 0) h)

    by : (t : Bool) → (IsTrue t ↔ (value_of S (get_or keys (i - 1) (0, 0)).1 ≡ value_of S (get_or keys i (0, 0)).1)) → MatchBool (not t) (IsRise S (places_of keys) i) (IsRepeat S (places_of keys) i)
    by true w = (z, sym y ∙ sym (w.0 refl) ∙ x)
    by false w = rise_here S (places_of keys) i s (omega (arith, h, long)) (λ e. let z = w.1 (x ∙ e ∙ sym y) in cc z)

-- a sort keeps the keys of the numbers
pub keys_moved : (S : List Value) (ks qs : List (ℕ × ℕ)) → ValuesAreKeyed S ks (length S) → IsPermutation ks qs → NumbersAreKeyed S qs
keys_moved S ks qs keyed p k h = All-permutation (λ (q : ℕ × ℕ). IsKeyAndPlace (value_of S) value_key IsSmallValue q.1 q) ks qs p each k (0, 0) h
  where
    each : All (λ (q : ℕ × ℕ). IsKeyAndPlace (value_of S) value_key IsSmallValue q.1 q) ks
    each i d b =
        let one = keyed.all i (omega (arith, b, keyed.many)) in
        let same = get_or_default ks i d (0, 0) b in
        rw same (record { key_is = one.key_is ∙ ap (λ (n : ℕ). value_key (value_of S n)) (sym one.place_is); place_is = refl; small = subst (λ (n : ℕ). IsSmallValue (value_of S n)) (sym one.place_is) one.small })

-- Indexes of columns.
use Rattle.std.proofs.Common.{◌≡◌, ◌∙◌, ◌+◌, ◌<◌, ◌≤◌, ◌++◌, ◌∷◌, ◌⊎◌, ◌||◌, ◌&&◌, ◌==◌, ℕ, List, [], Bool, true, false, refl, sym, ap, subst, arith, length, get_or, nat_lt, inl, inr, IsPermutation, IsSorted, All, Contains, below_more}
use Rattle.std.specs.Ordering.{is_lt, nat_cmp, ordering_then}
use Rattle.std.specs.Cmp.{IsTotalOrder}
use Rattle.std.specs.declared.cmp.Ordering.{Ordering}
use Rattle.std.specs.List.Sorted.{IsPartitionPoint, IsPartitionedBy}
use Rattle.std.proofs.lemmas.Bool.{cases_Bool, cases_lt, eq-eqb, eqb-true, lt-ltb, ltb-true, true≢false}
use Rattle.std.proofs.lemmas.Cmp.{nat_cmp_total, on_total, then_total}
use Rattle.std.proofs.lemmas.List.{get_or_default, get_or_push, get_or_append_left, length_push}
use Rattle.std.proofs.lemmas.List.MinMax.{ranks_by}
use Rattle.std.proofs.lemmas.List.Sorted.{All-permutation, Contains-permutation, sorted_far}
use Rattle.dx_base.specs.Members.{Each}
use Rattle.dx_base.proofs.Ranges.{nat_self, nat_less}
use Rattle.dx_instance.specs.Indexes.{IsColumnIndex, NoNumber, entry_at, number_in}
use Rattle.dx_instance.specs.declared.column_index.ColumnIndex.{ColumnIndex}

-- the first n rows, each with its number
pub record Listed (rows : List (List ℕ)) (column : ℕ) (entries : List (ℕ × ℕ)) (n : ℕ) : Type 0 where
  pub many : length entries ≡ n
  pub all : (k : ℕ) → k < n → get_or entries k (0, 0) ≡ (number_in rows column k, k)

pub listed_more : (rows : List (List ℕ)) (column : ℕ) (entries new : List (ℕ × ℕ)) (i number : ℕ) → number ≡ number_in rows column i → new ≡ entries ++ (number, i) ∷ [] → Listed rows column entries i → Listed rows column new (i + 1)
listed_more rows column entries new i number e n l = rw n (record {
  many = length_push entries (number, i) ∙ ap (λ (m : ℕ). m + 1) l.many;
  all = below_more _ _ (λ k h. get_or_append_left entries ((number, i) ∷ []) (0, 0) k (omega (arith, h, l.many)) ∙ l.all k h) (get_or_push entries (number, i) (0, 0) i l.many ∙ (λ j. (e j, i)));
})

abbrev pub pair_cmp : (ℕ × ℕ) → (ℕ × ℕ) → Ordering
pair_cmp x y = ordering_then (nat_cmp x.0 y.0) (nat_cmp x.1 y.1)

pair_total : IsTotalOrder pair_cmp
pair_total = then_total (on_total (λ (p : ℕ × ℕ). p.0) nat_cmp_total) (on_total (λ (p : ℕ × ℕ). p.1) nat_cmp_total)

-- a pair that is not below another comes after it
not_below : (x y : ℕ × ℕ) → is_lt (pair_cmp y x) ≡ false → (x.0 < y.0) ⊎ ((x.0 ≡ y.0) × (x.1 ≤ y.1))
not_below x y f = elim (cases_lt x.0 y.0) [
  | inl h ↦ inl h
  | inr h ↦ elim (cases_lt y.0 x.0) [
    | inl k ↦ absurd (true≢false (rw (nat_less y.0 x.0 k) at f))
    | inr k ↦
        let same : y.0 ≡ x.0 = omega (arith, h, k) in
        elim (cases_lt y.1 x.1) [
          | inl l ↦ absurd (true≢false (rw (same, nat_self x.0, nat_less y.1 x.1 l) at f))
          | inr l ↦ inr (sym same, l)
        ]
  ]
]

-- what a sort of the listed rows comes to
pub index_is : (rows : List (List ℕ)) (es : List (ℕ × ℕ)) (x : ColumnIndex) → Listed rows x.column es (length rows) → IsPermutation es x.entries.items → IsSorted pair_cmp x.entries.items → IsColumnIndex rows x
index_is rows es x l p s = record { each = λ k h. each k (0, 0) h; all = all; up = up }
  where
    Is : ℕ × ℕ → Type 0
    Is e = (e.1 < length rows) × (e.0 ≡ number_in rows x.column e.1)

    first : All Is es
    first k d h =
        let b : k < length rows = omega (arith, h, l.many) in
        let e : get_or es k d ≡ (number_in rows x.column k, k) = get_or_default es k d (0, 0) h ∙ l.all k b in
        subst Is (sym e) (b, refl)

    each : All Is x.entries.items
    each = All-permutation Is es x.entries.items p first

    all : (q : ℕ) → q < length rows → (k : ℕ) × (k < length x.entries.items) × ((entry_at x k).1 ≡ q)
    all q h =
        let e : ℕ × ℕ = (number_in rows x.column q, q) in
        let b : q < length es = omega (arith, h, l.many) in
        let c : Contains es e = (q, b, get_or_default es q e (0, 0) b ∙ l.all q h) in
        let k = Contains-permutation es x.entries.items e p c in
        (k.0, k.1, ap (λ (y : ℕ × ℕ). y.1) (get_or_default x.entries.items k.0 (0, 0) e k.1 ∙ k.2))

    up : (i j : ℕ) → i ≤ j → j < length x.entries.items → ((entry_at x i).0 < (entry_at x j).0) ⊎ (((entry_at x i).0 ≡ (entry_at x j).0) × ((entry_at x i).1 ≤ (entry_at x j).1))
    up i j h b = not_below (entry_at x i) (entry_at x j) (sorted_far (λ y z. is_lt (pair_cmp y z)) (ranks_by pair_total (λ (y : ℕ × ℕ). y)) x.entries.items s i j (0, 0) h b)

-- whether an entry comes before those with the number from a place on
abbrev pub test : ℕ → ℕ → ℕ × ℕ → Bool
test number from e = nat_lt e.0 number || (e.0 == number && nat_lt e.1 from)

abbrev Before : ℕ → ℕ → ℕ × ℕ → Type 0
Before number from e = (e.0 < number) ⊎ ((e.0 ≡ number) × (e.1 < from))

test_true : (number from : ℕ) (e : ℕ × ℕ) → test number from e ≡ true → Before number from e
test_true number from e h = elim (cases_Bool (nat_lt e.0 number)) [
  | inl y ↦ inl (ltb-true e.0 number y)
  | inr f ↦ elim (cases_Bool (e.0 == number)) [
    | inl z ↦ inr (eqb-true e.0 number z, ltb-true e.1 from (rw (f, z) at h))
    | inr g ↦ absurd (true≢false (sym (rw (f, g) at h)))
  ]
]

before_test : (number from : ℕ) (e : ℕ × ℕ) → Before number from e → test number from e ≡ true
before_test number from e (inl h) = rw (lt-ltb e.0 number h) refl
before_test number from e (inr h) = elim (cases_Bool (nat_lt e.0 number)) [
  | inl y ↦ rw y refl
  | inr f ↦ rw (f, eq-eqb e.0 number h.0, lt-ltb e.1 from h.1) refl
]

-- an entry that does not come before
not_before : (number from : ℕ) (e : ℕ × ℕ) → test number from e ≡ false → (number ≤ e.0) × (e.0 ≡ number → from ≤ e.1)
not_before number from e h = (first, second)
  where
    no : ¬ (Before number from e)
    no b = true≢false (sym (before_test number from e b) ∙ h)

    first : number ≤ e.0
    first = elim (cases_lt e.0 number) [ inl k ↦ absurd (no (inl k)) | inr k ↦ k ]

    second : e.0 ≡ number → from ≤ e.1
    second q = elim (cases_lt e.1 from) [ inl k ↦ absurd (no (inr (q, k))) | inr k ↦ k ]

-- entries before come first
pub parted : (rows : List (List ℕ)) (x : ColumnIndex) (number from : ℕ) → IsColumnIndex rows x → IsPartitionedBy (test number from) x.entries.items
parted rows x number from is i j d h b t =
    let ib : i < length x.entries.items = omega (arith, h, b) in
    let ei = get_or_default x.entries.items i d (0, 0) ib in
    let ej = get_or_default x.entries.items j d (0, 0) b in
    let low = test_true number from (entry_at x j) (rw ej at t) in
    rw ei (before_test number from (entry_at x i) (elim (is.up i j h b) [
      | inl l ↦ elim low [ inl k ↦ inl (omega (arith, l, k)) | inr k ↦ inl (omega (arith, l, k.0)) ]
      | inr l ↦ elim low [ inl k ↦ inl (omega (arith, l.0, k)) | inr k ↦ inr (l.0 ∙ k.0, omega (arith, l.1, k.1)) ]
    ]))

-- an entry for a place with the number, from a place on, stands after the first
behind : (rows : List (List ℕ)) (x : ColumnIndex) (number from first p : ℕ) → IsColumnIndex rows x → IsPartitionPoint (λ y. test number from y ≡ true) (λ y. test number from y ≡ false) x.entries.items first
    → from ≤ p → p < length rows → number_in rows x.column p ≡ number → (k : ℕ) × (first ≤ k) × (k < length x.entries.items) × ((entry_at x k).1 ≡ p) × ((entry_at x k).0 ≡ number)
behind rows x number from first p is parts l h e =
    let k = is.all p h in
    let value : (entry_at x k.0).0 ≡ number = (is.each k.0 k.1).1 ∙ ap (number_in rows x.column) k.2 ∙ e in
    let after : first ≤ k.0 = elim (cases_lt k.0 first) [
      | inl b ↦ elim (test_true number from (entry_at x k.0) (parts.0 k.0 (0, 0) (omega arith) b)) [ inl c ↦ absurd (omega (arith, c, value)) | inr c ↦ absurd (omega (arith, c.1, l, k.2)) ]
      | inr b ↦ b
    ] in
    (k.0, after, k.1, k.2, value)

pub next_some : (rows : List (List ℕ)) (x : ColumnIndex) (number from first : ℕ) → IsColumnIndex rows x → IsPartitionPoint (λ y. test number from y ≡ true) (λ y. test number from y ≡ false) x.entries.items first
    → first < length x.entries.items → (entry_at x first).0 ≡ number
    → (from ≤ (entry_at x first).1) × ((entry_at x first).1 < length rows) × (number_in rows x.column (entry_at x first).1 ≡ number) × NoNumber rows x.column number from (entry_at x first).1
next_some rows x number from first is parts h e =
    let one = is.each first h in
    let late = (not_before number from (entry_at x first) (parts.1 first (0, 0) (omega arith) h)).1 e in (
      late,
      one.0,
      sym one.1 ∙ e,
      λ p l b q.
          let k = behind rows x number from first p is parts l (omega (arith, b, one.0)) q in
          elim (is.up first k.0 k.1 k.2) [ inl c ↦ omega (arith, c, e, k.4) | inr c ↦ omega (arith, c.1, k.3, b) ],
    )

pub next_none : (rows : List (List ℕ)) (x : ColumnIndex) (number from first : ℕ) → IsColumnIndex rows x → IsPartitionPoint (λ y. test number from y ≡ true) (λ y. test number from y ≡ false) x.entries.items first
    → (first < length x.entries.items → ¬ ((entry_at x first).0 ≡ number)) → NoNumber rows x.column number from (length rows)
next_none rows x number from first is parts n p l b q =
    let k = behind rows x number from first p is parts l b q in
    let h : first < length x.entries.items = omega (arith, k.1, k.2) in
    let low = (not_before number from (entry_at x first) (parts.1 first (0, 0) (omega arith) h)).0 in
    elim (is.up first k.0 k.1 k.2) [ inl c ↦ omega (arith, c, k.4, low) | inr c ↦ n h (c.0 ∙ k.4) ]

-- no indexes
pub no_index : (xs : List ColumnIndex) (rows : List (List ℕ)) → xs ≡ [] → Each xs (IsColumnIndex rows)
no_index xs rows e = rw e (λ x m. elim m [ ])

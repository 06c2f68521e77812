-- The nulls of rows and facts, and places in ascending lists.
use Rattle.std.proofs.Common.{◌≡◌, ℕ, zero, suc, ◌+◌, ◌<◌, List, [], ◌∷◌, ◌++◌, inl, inr, refl, sym, ◌∙◌, ap, subst, arith}
use Rattle.std.proofs.Common.{length, get_or, take, append-nil}
use Rattle.std.specs.List.Sorted.{IsPermutation, IsSorted, IsNonDecreasingBy, IsPartitionPoint}
use Rattle.std.specs.List.Retain.{IsFiltered, DiffersFromLast}
use Rattle.std.specs.Ordering.{ordering_index, ordering_reverse, is_lt}
use Rattle.std.specs.declared.cmp.Ordering.TheVariants.{Less, Greater}
use Rattle.std.proofs.lemmas.Bool.{cases_order}
use Rattle.std.proofs.lemmas.Grind.{flat_map-append}
use Rattle.std.proofs.lemmas.List.{take_more}
use Rattle.std.proofs.lemmas.List.Sorted.{searchable_from_sorted}
use Rattle.dx_base.specs.Members.{◌∈◌, here, there}
use Rattle.dx_base.proofs.Loops.{each_item}
use Rattle.dx_base.proofs.Members.{in_at, in_flat_map, from_flat_map, from_append}
use Rattle.dx_model.specs.declared.values.NullId.{NullId}
use Rattle.dx_model.specs.declared.values.Value.{Value}
use Rattle.dx_model.specs.declared.values.Value.TheVariants.{Const, Null}
use Rattle.dx_model.specs.declared.facts.Fact.{Fact}
use Rattle.dx_model.specs.contracts.values.NullIdOrd.TheImpl.{cmp-value as null_order}
use Rattle.dx_model.specs.contracts.values.NullIdPartialEq.TheImpl.{eq-value as null_same}
use Rattle.dx_model.specs.Values.{Ascends, NullsAscend, null_cmp, null_at}
use Rattle.dx_model.specs.Instances.{values}
use Rattle.dx_model.proofs.Orders.{null_total, not_above}
use Rattle.dx_blocks.specs.Nulls.{AreNulls, null_in, row_nulls}
use Rattle.dx_blocks.proofs.Sorting.{nulls_ascend, nulls_same}

-- ---- the nulls of rows

null_is : (n : NullId) (v : Value) → n ∈ null_in v → v ≡ Null n
null_is n (Const t) m = elim m [ ]
null_is n (Null k) (here e) = ap Null e
null_is n (Null k) (there m) = elim m [ ]

pub values_more : (A : List Fact) (i : ℕ) (f : Fact) → i < length A → f ≡ get_or A i f
    → values (take (i + 1) A) ≡ values (take i A) ++ f.row
values_more A i f h e =
    ap values (take_more A i f h) ∙ (flat_map-append (λ (g : Fact). g.row) (take i A) (get_or A i f ∷ [])
    ∙ ap (λ z. values (take i A) ++ z) (append-nil (get_or A i f).row ∙ ap (λ (g : Fact). g.row) (sym e)))

pub nulls_are : (A : List Fact) (ls ms ns : List NullId) → ls ≡ row_nulls (values A) → IsPermutation ls ms → IsSorted null_order.it ms
    → IsFiltered (DiffersFromLast null_same.it) [] ms ns → AreNulls A ns
nulls_are A ls ms ns e moved sorted filtered =
    let same = nulls_same ls ms ns moved filtered in record {
      ascend = nulls_ascend ms ns sorted filtered;
      exactly = λ n. (
        (λ m. let w = from_flat_map null_in (values A) (subst (λ xs. n ∈ xs) e (same.0 n m)) in subst (λ v. v ∈ values A) (null_is n w.0 w.2) w.1),
        (λ m. same.1 n (subst (λ xs. n ∈ xs) (sym e) (in_flat_map null_in m (here refl)))),
      );
    }

-- the value at a place of a row
pub value_in : (row : List Value) (i : ℕ) (v : Value) (n : NullId) → i < length row → v ≡ get_or row i v → v ≡ Null n → Null n ∈ row
value_in row i v n h e d = subst (λ x. x ∈ row) d (each_item (λ x. x ∈ row) row i v h e (λ x m. m))

-- a row without nulls so far, and a value that is none
pub none_more : (row : List Value) (i : ℕ) (v : Value) → i < length row → v ≡ get_or row i v → ((n : NullId) → v ≡ Null n → ⊥)
    → ((n : NullId) → ¬ (Null n ∈ take i row)) → (n : NullId) → ¬ (Null n ∈ take (i + 1) row)
none_more row i v h e k none n m = elim (from_append (take i row) (rw (take_more row i v h) at m)) [ inl l ↦ none n l | inr r ↦ last r ]
  where
    last : Null n ∈ (get_or row i v ∷ []) → ⊥
    last (here d) = k n (e ∙ d)
    last (there m) = elim m [ ]

-- ---- places in ascending lists

pub ascends_at : {X : Type 0} (before : X → X → Type 0) (xs : List X) → Ascends before xs → (i j : ℕ) (d : X) → i < j → j < length xs
    → before (get_or xs i d) (get_or xs j d)
ascends_at before [] a i j d h k = absurd (omega arith)
ascends_at before (x ∷ xs) a zero zero d h k = absurd (omega arith)
ascends_at before (x ∷ xs) a zero (suc j) d h k = a.0 (get_or xs j d) (in_at xs j d (omega arith))
ascends_at before (x ∷ xs) a (suc i) zero d h k = absurd (omega arith)
ascends_at before (x ∷ xs) a (suc i) (suc j) d h k = ascends_at before xs a.1 i j d (omega arith) (omega arith)

pub not_less : (n : NullId) → null_cmp n n ≡ Less → ⊥
not_less n e = let t = null_total.antisymm n n in cc (rw e at t)

-- the nulls of an ascending list differ
pub place_is_one : (ns : List NullId) → NullsAscend ns → (i j : ℕ) → i < length ns → j < length ns → null_at ns i ≡ null_at ns j → i ≡ j
place_is_one ns a i j h k e = elim (cases_order i j) [
  | inl d ↦ d
  | inr o ↦ elim o [
    | inl l ↦ absurd (not_less (null_at ns j) (rw e at (up i j l k)))
    | inr l ↦ absurd (not_less (null_at ns j) (rw e at (up j i l h)))
  ]
]
  where
    up : (i j : ℕ) → i < j → j < length ns → null_cmp (null_at ns i) (null_at ns j) ≡ Less
    up i j l k = ascends_at (λ m n. null_cmp m n ≡ Less) ns a i j (record { rule = 0; var = 0; row = 0 }) l k

-- each member has a place
pub place_there : (ns : List NullId) (n : NullId) → n ∈ ns → (k : ℕ) × (k < length ns) × (null_at ns k ≡ n)
place_there [] n m = elim m [ ]
place_there (x ∷ ns) n (here e) = (0, omega arith, e)
place_there (x ∷ ns) n (there m) = let w = place_there ns n m in (suc w.0, omega (arith, w.1), w.2)

-- an ascending list is fit for a binary search
searchable : (ns : List NullId) (n : NullId) → NullsAscend ns → IsNonDecreasingBy (λ y. ordering_index (null_cmp y n)) ns
searchable ns n a = searchable_from_sorted null_total (λ y. y) ns n (λ k d l h.
    let less = ascends_at (λ m n. null_cmp m n ≡ Less) ns a k (k + 1) d (omega arith) h in
    ap is_lt (null_total.antisymm (get_or ns (k + 1) d) (get_or ns k d) ∙ ap ordering_reverse less))

-- what is there is found
pub is_found : (ns : List NullId) (n : NullId) (i : ℕ) → NullsAscend ns → n ∈ ns
    → (IsNonDecreasingBy (λ y. ordering_index (null_cmp y n)) ns
    → IsPartitionPoint (λ y. null_cmp y n ≡ Less) (λ y. null_cmp y n ≡ Greater) ns i) → ⊥
is_found ns n i a m p =
    let w = place_there ns n m in
    let split = p (searchable ns n a) in
    let d : NullId = record { rule = 0; var = 0; row = 0 } in
    elim (cases_order w.0 i) [
      | inl e ↦ not_above n (rw w.2 at (split.1 w.0 d (omega arith) w.1))
      | inr o ↦ elim o [
        | inl l ↦ not_less n (rw w.2 at (split.0 w.0 d (omega arith) l))
        | inr l ↦ not_above n (rw w.2 at (split.1 w.0 d (omega arith) w.1))
      ]
    ]

-- Lists by slot, and what a change of one does to all.
use Rattle.std.proofs.Common.{◌≡◌, ℕ, zero, suc, ◌<◌, ◌≤◌, ◌+◌, ◌-◌, ◌^◌, List, [], ◌∷◌, ◌++◌, inl, inr, refl, sym, ◌∙◌, ap, length, arith, nat_eq}
use Rattle.std.specs.Prelude.{map, slice_set, replicate}
use Rattle.std.proofs.lemmas.Bool.{cases_eq}
use Rattle.std.proofs.lemmas.List.{length-map}
use Rattle.dx_chase.specs.Joins.{nth}
use Rattle.dx_chase.specs.Slots.{list_at, SlotsFit, lists_of, slots_taken}
use Rattle.dx_chase.proofs.Lists.{at_set, at_other, length_set, list_set, list_other, lists_set}

list_of_map : (f : ℕ → List ℕ) (xs : List ℕ) (i : ℕ) → i < length xs → list_at (map f xs) i ≡ f (nth xs i)
list_of_map f [] i h = absurd (omega arith)
list_of_map f (x ∷ xs) zero h = refl
list_of_map f (x ∷ xs) (suc i) h = list_of_map f xs i (omega arith)

same_each : (xs ys : List (List ℕ)) → length xs ≡ length ys → ((i : ℕ) → i < length ys → list_at xs i ≡ list_at ys i) → xs ≡ ys
same_each [] [] l f = refl
same_each [] (y ∷ ys) l f = absurd (omega arith)
same_each (x ∷ xs) [] l f = absurd (omega arith)
same_each (x ∷ xs) (y ∷ ys) l f =
    let e : x ≡ y = f 0 (omega arith) in
    let r = same_each xs ys (omega arith) (λ i h. f (suc i) (omega arith)) in
    cc

list_end : (xs : List (List ℕ)) (w : List ℕ) → list_at (xs ++ w ∷ []) (length xs) ≡ w
list_end [] w = refl
list_end (x ∷ xs) w = list_end xs w

list_before : (xs : List (List ℕ)) (w : List ℕ) (i : ℕ) → i < length xs → list_at (xs ++ w ∷ []) i ≡ list_at xs i
list_before [] w i h = absurd (omega arith)
list_before (x ∷ xs) w zero h = refl
list_before (x ∷ xs) w (suc i) h = list_before xs w i (omega arith)

pub length_lists : (lists : List (List ℕ)) (slots : List ℕ) → length (lists_of lists slots) ≡ length slots
length_lists lists slots = length-map slots (list_at ([] ∷ lists))

pub list_in_slot : (lists : List (List ℕ)) (slots : List ℕ) (v : ℕ) → v < length slots → list_at (lists_of lists slots) v ≡ list_at ([] ∷ lists) (nth slots v)
list_in_slot lists slots v h = list_of_map (list_at ([] ∷ lists)) slots v h

-- no slot before, and no slot after
pub lists_stay : (all : List (List ℕ)) (v : ℕ) (w : List ℕ) → list_at all v ≡ w → all ≡ slice_set all v w
lists_stay [] v w e = refl
lists_stay (x ∷ xs) zero w e = cc
lists_stay (x ∷ xs) (suc v) w e = ap (λ z. x ∷ z) (lists_stay xs v w e)

-- another list in the slot of one number
pub lists_change : (lists : List (List ℕ)) (slots : List ℕ) (v s : ℕ) (w : List ℕ) → SlotsFit lists slots → v < length slots → nth slots v ≡ suc s
    → lists_of (slice_set lists s w) slots ≡ slice_set (lists_of lists slots) v w
lists_change lists slots v s w A h e = same_each _ _ (length_lists (slice_set lists s w) slots ∙ sym len) at_place
  where
    len : length (slice_set (lists_of lists slots) v w) ≡ length slots
    len = lists_set (lists_of lists slots) v w ∙ length_lists lists slots

    at_place : (i : ℕ) → i < length (slice_set (lists_of lists slots) v w) → list_at (lists_of (slice_set lists s w) slots) i ≡ list_at (slice_set (lists_of lists slots) v w) i
    at_place i k =
        let q = len in
        let g : i < length slots = omega arith in
        let within : v < length (lists_of lists slots) = (let z = length_lists lists slots in omega arith) in
        let low : s < length lists = (let z = A.inside v in omega arith) in
        elim (cases_eq i v) [
          | inl y ↦ rw y (list_in_slot (slice_set lists s w) slots v h ∙ ap (list_at ([] ∷ slice_set lists s w)) e ∙ list_set lists s w low ∙ sym (list_set (lists_of lists slots) v w within))
          | inr n ↦ list_in_slot (slice_set lists s w) slots i g
              ∙ list_other ([] ∷ lists) (suc s) (nth slots i) w (λ y. n (A.apart i v (y ∙ sym e) (λ z. absurd (let a = sym y ∙ z in omega arith))))
              ∙ sym (list_in_slot lists slots i g) ∙ sym (list_other (lists_of lists slots) v i w n)
        ]

-- a new slot for a number that had none
pub lists_grow : (lists : List (List ℕ)) (slots : List ℕ) (v : ℕ) (w : List ℕ) → SlotsFit lists slots → v < length slots
    → lists_of (lists ++ w ∷ []) (slice_set slots v (suc (length lists))) ≡ slice_set (lists_of lists slots) v w
lists_grow lists slots v w A h = same_each _ _ (length_lists (lists ++ w ∷ []) after ∙ length_set slots v (suc (length lists)) ∙ sym len) at_place
  where
    after : List ℕ
    after = slice_set slots v (suc (length lists))

    len : length (slice_set (lists_of lists slots) v w) ≡ length slots
    len = lists_set (lists_of lists slots) v w ∙ length_lists lists slots

    at_place : (i : ℕ) → i < length (slice_set (lists_of lists slots) v w) → list_at (lists_of (lists ++ w ∷ []) after) i ≡ list_at (slice_set (lists_of lists slots) v w) i
    at_place i k =
        let q = len in
        let r : length after ≡ length slots = length_set slots v (suc (length lists)) in
        let g : i < length after = omega arith in
        let o : i < length slots = omega arith in
        let within : v < length (lists_of lists slots) = (let z = length_lists lists slots in omega arith) in
        elim (cases_eq i v) [
          | inl y ↦ rw y (list_in_slot (lists ++ w ∷ []) after v (omega arith) ∙ ap (list_at ([] ∷ (lists ++ w ∷ []))) (at_set slots v (suc (length lists)) h) ∙ list_end lists w
              ∙ sym (list_set (lists_of lists slots) v w within))
          | inr n ↦ list_in_slot (lists ++ w ∷ []) after i g ∙ ap (list_at ([] ∷ (lists ++ w ∷ []))) (at_other slots v i (suc (length lists)) n)
              ∙ list_before ([] ∷ lists) w (nth slots i) (let z = A.inside i in omega arith)
              ∙ sym (list_in_slot lists slots i o) ∙ sym (list_other (lists_of lists slots) v i w n)
        ]

taken_few : (slots : List ℕ) → slots_taken slots ≤ length slots
taken_few [] = omega arith
taken_few (zero ∷ xs) = let r = taken_few xs in omega arith
taken_few (suc x ∷ xs) = let r = taken_few xs in omega arith

-- a number without a slot leaves room for one
pub taken_fewer : (slots : List ℕ) (v : ℕ) → v < length slots → nth slots v ≡ 0 → slots_taken slots < length slots
taken_fewer [] v h e = absurd (omega arith)
taken_fewer (zero ∷ xs) zero h e = let r = taken_few xs in omega arith
taken_fewer (suc x ∷ xs) zero h e = absurd (omega arith)
taken_fewer (zero ∷ xs) (suc v) h e = let r = taken_fewer xs v (omega arith) e in omega arith
taken_fewer (suc x ∷ xs) (suc v) h e = let r = taken_fewer xs v (omega arith) e in omega arith

taken_more : (slots : List ℕ) (v s : ℕ) → v < length slots → nth slots v ≡ 0 → slots_taken (slice_set slots v (suc s)) ≡ slots_taken slots + 1
taken_more [] v s h e = absurd (omega arith)
taken_more (zero ∷ xs) zero s h e = omega arith
taken_more (suc x ∷ xs) zero s h e = absurd (omega arith)
taken_more (zero ∷ xs) (suc v) s h e = let r = taken_more xs v s (omega arith) e in omega arith
taken_more (suc x ∷ xs) (suc v) s h e = let r = taken_more xs v s (omega arith) e in omega arith

nth_zeros : (n v : ℕ) → nth (replicate n 0) v ≡ 0
nth_zeros zero v = refl
nth_zeros (suc n) zero = refl
nth_zeros (suc n) (suc v) = nth_zeros n v

length_zeros : (n : ℕ) → length {A = ℕ} (replicate n 0) ≡ n
length_zeros zero = refl
length_zeros (suc n) = ap suc (length_zeros n)

pub slots_none : (n : ℕ) → n < 2 ^ 32 → SlotsFit [] (replicate n 0)
slots_none n h = record {
  inside = λ v. let z = nth_zeros n v in omega arith;
  apart = λ v w e d. absurd (d (nth_zeros n v));
  room = omega arith;
  few = rw (length_zeros n) h;
}

pub lists_none_yet : (n : ℕ) → lists_of [] (replicate n 0) ≡ replicate n []
lists_none_yet zero = refl
lists_none_yet (suc n) = ap (λ z. [] ∷ z) (lists_none_yet n)

-- lists change, slots stay
pub slots_keep : (lists after : List (List ℕ)) (slots : List ℕ) → length after ≡ length lists → SlotsFit lists slots → SlotsFit after slots
slots_keep lists after slots e A = record {
  inside = λ v. let z = A.inside v in omega arith;
  apart = A.apart;
  room = let z = A.room in omega arith;
  few = A.few;
}

pub slots_grow : (lists : List (List ℕ)) (slots : List ℕ) (v : ℕ) (w : List ℕ) → SlotsFit lists slots → v < length slots → nth slots v ≡ 0
    → SlotsFit (lists ++ w ∷ []) (slice_set slots v (suc (length lists)))
slots_grow lists slots v w A h e = record {
  inside = λ u. elim (cases_eq u v) [
    | inl y ↦ rw y (let z = at_set slots v (suc (length lists)) h in let q = long lists in omega arith)
    | inr n ↦ let z = at_other slots v u (suc (length lists)) n in let q = long lists in let r = A.inside u in omega arith
  ];
  apart = λ a b i d. elim (cases_eq a v) [
    | inl y ↦ elim (cases_eq b v) [
      | inl x ↦ y ∙ sym x
      | inr n ↦ absurd (clash b n (sym i ∙ ap (nth (slice_set slots v (suc (length lists)))) y ∙ at_set slots v (suc (length lists)) h))
    ]
    | inr m ↦ elim (cases_eq b v) [
      | inl x ↦ absurd (clash a m (i ∙ ap (nth (slice_set slots v (suc (length lists)))) x ∙ at_set slots v (suc (length lists)) h))
      | inr n ↦ A.apart a b (sym (at_other slots v a (suc (length lists)) m) ∙ i ∙ at_other slots v b (suc (length lists)) n)
          (λ z. d (at_other slots v a (suc (length lists)) m ∙ z))
    ]
  ];
  room = let z = A.room in let q = long lists in let r = taken_more slots v (length lists) h e in omega arith;
  few = rw (length_set slots v (suc (length lists))) A.few;
}
  where
    long : (xs : List (List ℕ)) → length (xs ++ w ∷ []) ≡ length xs + 1
    long [] = refl
    long (x ∷ xs) = let r = long xs in omega arith

    clash : (u : ℕ) → ¬ (u ≡ v) → nth (slice_set slots v (suc (length lists))) u ≡ suc (length lists) → ⊥
    clash u n i = let z = at_other slots v u (suc (length lists)) n in let r = A.inside u in omega arith

-- a number that has a slot, of lists as they are seen
module _ (view lists : List (List ℕ)) (slots : List ℕ) (v slot : ℕ) (q : view ≡ lists_of lists slots) (A : SlotsFit lists slots) (h : v < length view) (e : slot ≡ nth slots v) where
  pub in_slots : v < length slots
  in_slots = let z = ap length q ∙ length_lists lists slots in omega arith

  pub none_in_slot : slot ≡ 0 → list_at view v ≡ []
  none_in_slot y = rw q (list_in_slot lists slots v in_slots ∙ ap (list_at ([] ∷ lists)) (sym e ∙ y))

  next : ¬ (slot ≡ 0) → nth slots v ≡ suc (slot - 1)
  next n = omega (arith, e, n)

  pub slot_in : ¬ (slot ≡ 0) → slot - 1 < length lists
  slot_in n = let z = A.inside v in omega (arith, e, n, z)

  pub some_in_slot : ¬ (slot ≡ 0) → list_at view v ≡ list_at lists (slot - 1)
  some_in_slot n = rw q (list_in_slot lists slots v in_slots ∙ ap (list_at ([] ∷ lists)) (next n))

  pub slot_changes : ¬ (slot ≡ 0) → (w : List ℕ) → lists_of (slice_set lists (slot - 1) w) slots ≡ slice_set view v w
  slot_changes n w = rw q (lists_change lists slots v (slot - 1) w A in_slots (next n))

  pub slot_is_new : slot ≡ 0 → (w : List ℕ) → lists_of (lists ++ w ∷ []) (slice_set slots v (suc (length lists))) ≡ slice_set view v (list_at view v ++ w)
  slot_is_new y w = rw (none_in_slot y, q) (lists_grow lists slots v w A in_slots)

  pub slots_are_new : slot ≡ 0 → (w : List ℕ) → SlotsFit (lists ++ w ∷ []) (slice_set slots v (suc (length lists)))
  slots_are_new y w = slots_grow lists slots v w A in_slots (sym e ∙ y)

  pub fits_one_more : slot ≡ 0 → length lists + 1 < 2 ^ 32
  fits_one_more y =
      let z = A.room in
      let f = A.few in
      let t = taken_fewer slots v in_slots (sym e ∙ y) in
      omega (arith, z, f, t)

pub in_slots_of : (view lists : List (List ℕ)) (slots : List ℕ) (v : ℕ) → view ≡ lists_of lists slots → v < length view → v < length slots
in_slots_of view lists slots v q h = let z = ap length q ∙ length_lists lists slots in omega (arith, z, h)

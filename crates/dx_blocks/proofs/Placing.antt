-- Lists at places, each with the members that have its place: one member more.
use Rattle.std.proofs.Common.{◌≡◌, ℕ, zero, suc, ◌<◌, List, [], ◌∷◌, ◌++◌, inl, inr, refl, sym, subst, arith, length, get_or, take}
use Rattle.std.specs.Prelude.{◌↔◌}
use Rattle.std.proofs.lemmas.Bool.{cases_eq}
use Rattle.dx_base.specs.Members.{◌∈◌, here, there, Each}
use Rattle.dx_base.proofs.Members.{in_left, in_right, in_at, from_append}
use Rattle.dx_model.specs.Values.{Ascends}

module _ {X : Type 0} (before : X → X → Type 0) where
  pub ascends_more : (xs : List X) (x : X) → Ascends before xs → Each xs (λ y. before y x) → Ascends before (xs ++ x ∷ [])
  ascends_more [] x a e = ((λ y m. elim m [ ]), tt)
  ascends_more (z ∷ xs) x a e = (
    (λ y m. elim (from_append xs m) [ inl l ↦ a.0 y l | inr r ↦ last y r ]),
    ascends_more xs x a.1 (λ y m. e y (there m)),
  )
    where
      last : (y : X) → y ∈ (x ∷ []) → before z y
      last y (here d) = rw (← d) (e z (here refl))
      last y (there m) = elim m [ ]

  -- in an ascending list what stands earlier is before
  pub ascends_split : (xs : List X) (x : X) (ys : List X) → Ascends before (xs ++ x ∷ ys) → Each xs (λ y. before y x)
  ascends_split [] x ys a y m = elim m [ ]
  ascends_split (z ∷ xs) x ys a y (here d) = rw (← d) (a.0 x (in_right xs (here refl)))
  ascends_split (z ∷ xs) x ys a y (there m) = ascends_split xs x ys a.1 y m

  pub ascends_take : (xs : List X) (i : ℕ) (d : X) → i < length xs → Ascends before xs → Each (take i xs) (λ y. before y (get_or xs i d))
  ascends_take [] i d h a y m = absurd (omega arith)
  ascends_take (z ∷ xs) zero d h a y m = elim m [ ]
  ascends_take (z ∷ xs) (suc i) d h a y (here e) = rw (← e) (a.0 (get_or xs i d) (in_at xs i d (omega arith)))
  ascends_take (z ∷ xs) (suc i) d h a y (there m) = ascends_take xs i d (omega arith) a.1 y m

module _ {X : Type 0} (before : X → X → Type 0) (has : ℕ → X → Type 0) where
  -- the list at each place below n ascends, and has those of these members that have the place
  abbrev pub Placed : (ℕ → List X) → ℕ → List X → Type 0
  Placed get n some = (k : ℕ) → k < n → Ascends before (get k) × ((x : X) → (x ∈ get k) ↔ ((x ∈ some) × has k x))

  pub placed_none : (get : ℕ → List X) (n : ℕ) → ((k : ℕ) → k < n → get k ≡ []) → Placed get n []
  placed_none get n e k h = rw (e k h) (tt, (λ x. ((λ m. elim m [ ]), (λ w. elim w.0 [ ]))))

  pub placed_as : (get next : ℕ → List X) (n : ℕ) (some : List X) → ((k : ℕ) → k < n → next k ≡ get k)
      → Placed get n some → Placed next n some
  placed_as get next n some e p k h = rw (e k h) (p k h)

  from_last : (x y : X) → y ∈ (x ∷ []) → x ≡ y
  from_last x y (here e) = e
  from_last x y (there m) = elim m [ ]

  -- a member that has no place
  pub placed_passed : (get : ℕ → List X) (n : ℕ) (some : List X) (x : X) → ((k : ℕ) → has k x → ⊥)
      → Placed get n some → Placed get n (some ++ x ∷ [])
  placed_passed get n some x none p k h = let w = p k h in (
    w.0,
    (λ y. (
      (λ m. let v = (w.1 y).0 m in (in_left (x ∷ []) v.0, v.1)),
      (λ v. elim (from_append some v.0) [ inl l ↦ (w.1 y).1 (l, v.1) | inr r ↦ absurd (none k (rw (from_last x y r) v.1)) ]),
    )),
  )

  -- a member that has the place l alone
  module _ (get next : ℕ → List X) (n l : ℕ) (some : List X) (x : X) (p : Placed get n some)
      (at_l : has l x) (only : (k : ℕ) → has k x → k ≡ l) (after : Each some (λ y. before y x)) where
    here_too : (k : ℕ) → k < n → k ≡ l → next k ≡ get k ++ x ∷ []
        → Ascends before (next k) × ((y : X) → (y ∈ next k) ↔ ((y ∈ (some ++ x ∷ [])) × has k y))
    here_too k h d e = let w = p k h in rw e (
      ascends_more before (get k) x w.0 (λ y m. after y ((w.1 y).0 m).0),
      (λ y. (
        (λ m. elim (from_append (get k) m) [
          | inl i ↦ let v = (w.1 y).0 i in (in_left (x ∷ []) v.0, v.1)
          | inr i ↦ (in_right some i, subst (has k) (from_last x y i) (subst (λ j. has j x) (sym d) at_l))
        ]),
        (λ v. elim (from_append some v.0) [ inl i ↦ in_left (x ∷ []) ((w.1 y).1 (i, v.1)) | inr i ↦ in_right (get k) i ]),
      )),
    )

    elsewhere : (k : ℕ) → k < n → ¬ (k ≡ l) → next k ≡ get k
        → Ascends before (next k) × ((y : X) → (y ∈ next k) ↔ ((y ∈ (some ++ x ∷ [])) × has k y))
    elsewhere k h d e = let w = p k h in rw e (
      w.0,
      (λ y. (
        (λ m. let v = (w.1 y).0 m in (in_left (x ∷ []) v.0, v.1)),
        (λ v. elim (from_append some v.0) [
          | inl i ↦ (w.1 y).1 (i, v.1)
          | inr i ↦ absurd (d (only k (subst (has k) (sym (from_last x y i)) v.1)))
        ]),
      )),
    )

    pub placed_more : ((k : ℕ) → k ≡ l → next k ≡ get k ++ x ∷ []) → ((k : ℕ) → ¬ (k ≡ l) → next k ≡ get k) → Placed next n (some ++ x ∷ [])
    placed_more e o k h = elim (cases_eq k l) [ inl d ↦ here_too k h d (e k d) | inr d ↦ elsewhere k h d (o k d) ]

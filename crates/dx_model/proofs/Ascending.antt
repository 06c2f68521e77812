-- Ascending lists: their members determine them, and each list of members has one.
use Rattle.std.proofs.Common.{◌≡◌, List, [], ◌∷◌, ◌⊎◌, inl, inr, refl, sym, ◌∙◌, ap, subst}
use Rattle.std.specs.Cmp.{IsTotalOrder}
use Rattle.std.specs.declared.cmp.Ordering.{Ordering}
use Rattle.std.specs.declared.cmp.Ordering.TheVariants.{Less, Equal, Greater}
use Rattle.std.specs.Ordering.{ordering_reverse}
use Rattle.dx_base.specs.Members.{◌∈◌, ◌⊆◌, here, there, Distinct, Each}
use Rattle.dx_model.specs.Values.{Ascends, fact_cmp}
use Rattle.dx_model.specs.Laws.{OneAscending}
use Rattle.dx_model.proofs.Orders.{fact_total}

-- each member comes before all that follow, in this order
abbrev pub Up : {X : Type 0} → (X → X → Ordering) → List X → Type 0
Up cmp = Ascends (λ x y. cmp x y ≡ Less)

module _ {X : Type 0} (cmp : X → X → Ordering) (total : IsTotalOrder cmp) where
  not_below_itself : (x : X) → cmp x x ≡ Less → ⊥
  not_below_itself x e =
      let t = total.antisymm x x in
      cc (rw e at t)

  -- no member of an ascending list stands twice
  pub ascending_distinct : (xs : List X) → Up cmp xs → Distinct xs
  ascending_distinct [] a = tt
  ascending_distinct (x ∷ xs) a = ((λ m. not_below_itself x (a.0 x m)), ascending_distinct xs a.1)

  not_both : (x y : X) → cmp x y ≡ Less → cmp y x ≡ Less → ⊥
  not_both x y a b = not_below_itself x (total.trans x y x a b)

  same_first : (x y : X) (xs ys : List X) → Each xs (λ s. cmp x s ≡ Less) → Each ys (λ s. cmp y s ≡ Less) → x ∈ (y ∷ ys) → y ∈ (x ∷ xs) → x ≡ y
  same_first x y xs ys a b (here e) m = sym e
  same_first x y xs ys a b (there k) (here e) = e
  same_first x y xs ys a b (there k) (there m) = absurd (not_both x y (a y m) (b x k))

  follows : (x : X) (xs ys : List X) → Each xs (λ s. cmp x s ≡ Less) → (x ∷ xs) ⊆ (x ∷ ys) → xs ⊆ ys
  follows x xs ys a f z m = at (f z (there m))
    where
      at : z ∈ (x ∷ ys) → z ∈ ys
      at (here e) = absurd (not_below_itself x (rw (← e) at (a z m)))
      at (there k) = k

  -- two ascending lists with the same members are one
  pub one_ascending : (xs ys : List X) → Up cmp xs → Up cmp ys → xs ⊆ ys → ys ⊆ xs → xs ≡ ys
  one_ascending [] [] a b f g = refl
  one_ascending [] (y ∷ ys) a b f g = elim (g y (here refl)) [ ]
  one_ascending (x ∷ xs) [] a b f g = elim (f x (here refl)) [ ]
  one_ascending (x ∷ xs) (y ∷ ys) a b f g =
      let first = same_first x y xs ys a.0 b.0 (f x (here refl)) (g y (here refl)) in
      let forth : (x ∷ xs) ⊆ (x ∷ ys) = subst (λ (r : X). (x ∷ xs) ⊆ (r ∷ ys)) (sym first) f in
      let back : (y ∷ ys) ⊆ (y ∷ xs) = subst (λ (r : X). (y ∷ ys) ⊆ (r ∷ xs)) first g in
      let rest = one_ascending xs ys a.1 b.1 (follows x xs ys a.0 forth) (follows y ys xs b.0 back) in
      cc

-- ---- insertion
module _ {X : Type 0} (cmp : X → X → Ordering) (total : IsTotalOrder cmp) (exact : (x y : X) → cmp x y ≡ Equal → x ≡ y) where
  abbrev put_by : Ordering → X → X → List X → List X → List X
  put_by Less x y ys more = x ∷ y ∷ ys
  put_by Equal x y ys more = y ∷ ys
  put_by Greater x y ys more = y ∷ more

  -- an ascending list with one more
  abbrev put : X → List X → List X
  put x [] = x ∷ []
  put x (y ∷ ys) = put_by (cmp x y) x y ys (put x ys)

  in_put : (x : X) (ys : List X) → x ∈ put x ys
  in_put x [] = here refl
  in_put x (y ∷ ys) = go (cmp x y) refl (in_put x ys)
    where
      go : (o : Ordering) → cmp x y ≡ o → x ∈ put x ys → x ∈ put_by o x y ys (put x ys)
      go Less e m = here refl
      go Equal e m = here (sym (exact x y e))
      go Greater e m = there m

  kept_put : (x z : X) (ys : List X) → z ∈ ys → z ∈ put x ys
  kept_put x z [] m = elim m [ ]
  kept_put x z (y ∷ ys) m = go (cmp x y) m (kept_put x z ys)
    where
      go : (o : Ordering) → z ∈ (y ∷ ys) → (z ∈ ys → z ∈ put x ys) → z ∈ put_by o x y ys (put x ys)
      go Less m r = there m
      go Equal m r = m
      go Greater (here e) r = here e
      go Greater (there m) r = there (r m)

  from_put : (x z : X) (ys : List X) → z ∈ put x ys → (x ≡ z) ⊎ (z ∈ ys)
  from_put x z [] (here e) = inl e
  from_put x z [] (there m) = elim m [ ]
  from_put x z (y ∷ ys) m = go (cmp x y) m (from_put x z ys)
    where
      go : (o : Ordering) → z ∈ put_by o x y ys (put x ys) → (z ∈ put x ys → (x ≡ z) ⊎ (z ∈ ys)) → (x ≡ z) ⊎ (z ∈ (y ∷ ys))
      go Less (here e) r = inl e
      go Less (there m) r = inr m
      go Equal m r = inr m
      go Greater (here e) r = inr (here e)
      go Greater (there m) r = elim (r m) [ inl e ↦ inl e | inr n ↦ inr (there n) ]

  put_ascends : (x : X) (ys : List X) → Up cmp ys → Up cmp (put x ys)
  put_ascends x [] a = ((λ z m. elim m [ ]), tt)
  put_ascends x (y ∷ ys) a = go (cmp x y) refl (put_ascends x ys a.1)
    where
      below : cmp x y ≡ Less → Each (y ∷ ys) (λ s. cmp x s ≡ Less)
      below e z (here d) = rw (← d) e
      below e z (there m) = total.trans x y z e (a.0 z m)

      above : cmp y x ≡ Less → Each (put x ys) (λ s. cmp y s ≡ Less)
      above e z m = elim (from_put x z ys m) [ inl d ↦ rw (← d) e | inr n ↦ a.0 z n ]

      turned : cmp x y ≡ Greater → cmp y x ≡ Less
      turned e = total.antisymm y x ∙ ap ordering_reverse e

      go : (o : Ordering) → cmp x y ≡ o → Up cmp (put x ys) → Up cmp (put_by o x y ys (put x ys))
      go Less e r = (below e, a)
      go Equal e r = a
      go Greater e r = (above (turned e), r)

  -- the members of a list, ascending
  abbrev pub in_order : List X → List X
  in_order [] = []
  in_order (x ∷ xs) = put x (in_order xs)

  pub in_order_ascends : (xs : List X) → Up cmp (in_order xs)
  in_order_ascends [] = tt
  in_order_ascends (x ∷ xs) = put_ascends x (in_order xs) (in_order_ascends xs)

  pub in_in_order : (z : X) (xs : List X) → z ∈ xs → z ∈ in_order xs
  in_in_order z [] m = elim m [ ]
  in_in_order z (x ∷ xs) (here e) = subst (λ (y : X). y ∈ put x (in_order xs)) e (in_put x (in_order xs))
  in_in_order z (x ∷ xs) (there m) = kept_put x z (in_order xs) (in_in_order z xs m)

  pub from_in_order : (z : X) (xs : List X) → z ∈ in_order xs → z ∈ xs
  from_in_order z [] m = elim m [ ]
  from_in_order z (x ∷ xs) m = elim (from_put x z (in_order xs) m) [ inl e ↦ here e | inr n ↦ there (from_in_order z xs n) ]

pub one_fact_list : OneAscending
one_fact_list A B a b s = one_ascending fact_cmp fact_total A B a b s.0 s.1

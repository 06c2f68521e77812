-- The first that is there: where none is, and what it is.
use Rattle.std.proofs.Common.{◌≡◌, inl, inr, List, [], ◌∷◌, Option, Some, None, map, refl}
use Rattle.std.specs.Prelude.{◌⊎◌}
use Rattle.dx_base.specs.Members.{◌∈◌, here, there}
use Rattle.dx_base.specs.Firsts.{first_of}

module _ {E : Type 0} where
  -- ---- none is there

  pub first_none : (x : Option E) (xs : List (Option E)) → first_of (x ∷ xs) ≡ None → (x ≡ None) × (first_of xs ≡ None)
  first_none None xs h = (refl, h)
  first_none (Some e) xs h = absurd cc

  pub none_of : (x : Option E) → first_of (x ∷ []) ≡ None → x ≡ None
  none_of None h = refl
  none_of (Some e) h = absurd cc

  pub two_none : (a b : Option E) → first_of (a ∷ b ∷ []) ≡ None → (a ≡ None) × (b ≡ None)
  two_none a b h = let r = first_none a (b ∷ []) h in (r.0, none_of b r.1)

  -- none of the items has one
  pub each_none : {X : Type 0} (g : X → Option E) (xs : List X) → first_of (map g xs) ≡ None → (x : X) → x ∈ xs → g x ≡ None
  each_none g [] h x m = elim m [ ]
  each_none g (y ∷ ys) h x (here e) = rw (← e) (first_none (g y) (map g ys) h).0
  each_none g (y ∷ ys) h x (there m) = each_none g ys (first_none (g y) (map g ys) h).1 x m

  -- ---- the first is one of them

  either_of : (x : Option E) (xs : List (Option E)) (e : E) → first_of (x ∷ xs) ≡ Some e → (x ≡ Some e) ⊎ (first_of xs ≡ Some e)
  either_of None xs e h = inr h
  either_of (Some d) xs e h = inl h

  -- what holds of each item's holds of the first
  pub first_so : {X : Type 0} (P : E → Type 0) (g : X → Option E) (xs : List X) (e : E) → ((x : X) (d : E) → g x ≡ Some d → P d) → first_of (map g xs) ≡ Some e → P e
  first_so P g [] e each h = absurd cc
  first_so P g (x ∷ xs) e each h = elim (either_of (g x) (map g xs) e h) [ inl k ↦ each x e k | inr k ↦ first_so P g xs e each k ]

  -- the first of two is one of both
  pub one_of_two : (a b : Option E) (e : E) → first_of (a ∷ b ∷ []) ≡ Some e → (a ≡ Some e) ⊎ (b ≡ Some e)
  one_of_two (Some d) b e h = inl h
  one_of_two None (Some d) e h = inr h
  one_of_two None None e h = absurd cc

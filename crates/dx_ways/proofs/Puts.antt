-- A pick that is put into a list that ascends.
use Rattle.std.proofs.Common.{◌≡◌, List, [], ◌∷◌, ◌⊎◌, inl, inr, refl, sym, ◌∙◌, subst}
use Rattle.std.specs.declared.cmp.Ordering.{Ordering}
use Rattle.std.specs.declared.cmp.Ordering.TheVariants.{Less, Equal, Greater}
use Rattle.dx_base.specs.Members.{◌∈◌, here, there, Each}
use Rattle.dx_lines.specs.declared.candidate.Pick.{Pick}
use Rattle.dx_lines.specs.Ways.{pick_cmp, put_by, put_in, ascending}
use Rattle.dx_lines.proofs.Ascending.{from_put}
use Rattle.dx_ways.specs.Laws.{PicksAscend}
use Rattle.dx_ways.proofs.Order.{pick_total, pick_exact, above}

-- ---- members

to_put_by : (o : Ordering) (x y : Pick) (ys rest : List Pick) (t : Pick) → (o ≡ Equal → x ≡ y) → ((x ≡ t) ⊎ (t ∈ ys) → t ∈ rest) → (x ≡ t) ⊎ (t ∈ (y ∷ ys)) → t ∈ put_by o x y ys rest
to_put_by Less x y ys rest t q h (inl e) = here e
to_put_by Less x y ys rest t q h (inr m) = there m
to_put_by Equal x y ys rest t q h (inl e) = here (sym (q refl) ∙ e)
to_put_by Equal x y ys rest t q h (inr m) = m
to_put_by Greater x y ys rest t q h (inl e) = there (h (inl e))
to_put_by Greater x y ys rest t q h (inr (here e)) = here e
to_put_by Greater x y ys rest t q h (inr (there m)) = there (h (inr m))

pub to_put : (x : Pick) (xs : List Pick) (t : Pick) → (x ≡ t) ⊎ (t ∈ xs) → t ∈ put_in x xs
to_put x [] t (inl e) = here e
to_put x [] t (inr m) = elim m [ ]
to_put x (y ∷ ys) t h = to_put_by (pick_cmp x y) x y ys (put_in x ys) t (pick_exact x y) (to_put x ys t) h

pub to_ascending : (xs : List Pick) (t : Pick) → t ∈ xs → t ∈ ascending xs
to_ascending [] t m = m
to_ascending (x ∷ xs) t (here e) = to_put x (ascending xs) t (inl e)
to_ascending (x ∷ xs) t (there m) = to_put x (ascending xs) t (inr (to_ascending xs t m))

-- ---- order

below_first : (x y : Pick) (ys : List Pick) → pick_cmp x y ≡ Less → Each ys (λ i. pick_cmp y i ≡ Less) → Each (y ∷ ys) (λ i. pick_cmp x i ≡ Less)
below_first x y ys l a i (here e) = subst (λ (z : Pick). pick_cmp x z ≡ Less) e l
below_first x y ys l a i (there m) = pick_total.trans x y i l (a i m)

below_put : (x y : Pick) (ys : List Pick) → pick_cmp y x ≡ Less → Each ys (λ i. pick_cmp y i ≡ Less) → Each (put_in x ys) (λ i. pick_cmp y i ≡ Less)
below_put x y ys l a i m = elim (from_put x ys i m) [ inl e ↦ subst (λ (z : Pick). pick_cmp y z ≡ Less) e l | inr n ↦ a i n ]

ascends_by : (o : Ordering) (x y : Pick) (ys : List Pick) → pick_cmp x y ≡ o → PicksAscend (y ∷ ys) → PicksAscend (put_in x ys) → PicksAscend (put_by o x y ys (put_in x ys))
ascends_by Less x y ys e a h = (below_first x y ys e a.0, a)
ascends_by Equal x y ys e a h = a
ascends_by Greater x y ys e a h = (below_put x y ys (above x y e) a.0, h)

pub put_ascends : (x : Pick) (xs : List Pick) → PicksAscend xs → PicksAscend (put_in x xs)
put_ascends x [] a = ((λ i m. elim m [ ]), tt)
put_ascends x (y ∷ ys) a = ascends_by (pick_cmp x y) x y ys refl a (put_ascends x ys a.1)

pub ascending_ascends : (xs : List Pick) → PicksAscend (ascending xs)
ascending_ascends [] = tt
ascending_ascends (x ∷ xs) = put_ascends x (ascending xs) (ascending_ascends xs)

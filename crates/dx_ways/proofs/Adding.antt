-- Picks that are put in one after another.
use Rattle.std.proofs.Common.{◌≡◌, ℕ, ◌+◌, ◌<◌, ◌≤◌, List, [], ◌∷◌, ◌++◌, ◌⊎◌, inl, inr, length, get_or, take, drop, refl, sym, ◌∙◌, ap, arith}
use Rattle.std.specs.Prelude.{◌↔◌}
use Rattle.std.specs.declared.cmp.Ordering.{Ordering}
use Rattle.std.specs.declared.cmp.Ordering.TheVariants.{Less, Equal, Greater}
use Rattle.std.proofs.lemmas.List.{drop_more, take_more, append_assoc}
use Rattle.dx_base.specs.Members.{◌∈◌, here, there}
use Rattle.dx_lines.specs.declared.candidate.Pick.{Pick}
use Rattle.dx_lines.specs.Ways.{pick_cmp, put_by, put_in, ascending}
use Rattle.dx_lines.proofs.Ascending.{from_put, from_ascending}
use Rattle.dx_ways.specs.Laws.{PicksAscend}
use Rattle.dx_ways.specs.Tried.{put_all}
use Rattle.dx_ways.proofs.Order.{one_ascending}
use Rattle.dx_ways.proofs.Puts.{to_put, to_ascending, put_ascends, ascending_ascends}

-- ---- where a pick belongs

at_rest : (x y : Pick) (xs : List Pick) (i : ℕ) (o : Ordering) → i < length xs → y ≡ get_or xs i y → pick_cmp x y ≡ o → put_in x (drop i xs) ≡ put_by o x y (drop (i + 1) xs) (put_in x (drop (i + 1) xs))
at_rest x y xs i o h e t = rw (drop_more xs i y h, ← e, t) refl

pub put_after : (x y : Pick) (xs : List Pick) (i : ℕ) → i < length xs → y ≡ get_or xs i y → pick_cmp x y ≡ Greater → put_in x xs ≡ take i xs ++ put_in x (drop i xs) → put_in x xs ≡ take (i + 1) xs ++ put_in x (drop (i + 1) xs)
put_after x y xs i h e t k =
    let m : take (i + 1) xs ≡ take i xs ++ y ∷ [] = rw (← e) at (take_more xs i y h) in
    k ∙ (ap (λ (zs : List Pick). take i xs ++ zs) (at_rest x y xs i Greater h e t) ∙ (sym (append_assoc (take i xs) (y ∷ []) (put_in x (drop (i + 1) xs))) ∙ ap (λ (zs : List Pick). zs ++ put_in x (drop (i + 1) xs)) (sym m)))

-- ---- all of these

pub all_append : (out xs ys : List Pick) → put_all out (xs ++ ys) ≡ put_all (put_all out xs) ys
all_append out [] ys = refl
all_append out (x ∷ xs) ys = all_append (put_in x out) xs ys

put_by_grows : (o : Ordering) (x y : Pick) (ys rest : List Pick) → length ys ≤ length rest → length (y ∷ ys) ≤ length (put_by o x y ys rest)
put_by_grows Less x y ys rest h = omega arith
put_by_grows Equal x y ys rest h = omega arith
put_by_grows Greater x y ys rest h = omega (arith, h)

put_grows : (x : Pick) (xs : List Pick) → length xs ≤ length (put_in x xs)
put_grows x [] = omega arith
put_grows x (y ∷ ys) = put_by_grows (pick_cmp x y) x y ys (put_in x ys) (put_grows x ys)

pub all_grows : (out xs : List Pick) → length out ≤ length (put_all out xs)
all_grows out [] = omega arith
all_grows out (x ∷ xs) = let a = put_grows x out in let b = all_grows (put_in x out) xs in omega (arith, a, b)

pub from_all : (out xs : List Pick) (t : Pick) → t ∈ put_all out xs → (t ∈ out) ⊎ (t ∈ xs)
from_all out [] t m = inl m
from_all out (x ∷ xs) t m = elim (from_all (put_in x out) xs t m) [
  | inr n ↦ inr (there n)
  | inl n ↦ elim (from_put x out t n) [ inl e ↦ inr (here e) | inr k ↦ inl k ]
]

pub to_all : (out xs : List Pick) (t : Pick) → (t ∈ out) ⊎ (t ∈ xs) → t ∈ put_all out xs
to_all out [] t (inl m) = m
to_all out [] t (inr m) = elim m [ ]
to_all out (x ∷ xs) t (inl m) = to_all (put_in x out) xs t (inl (to_put x out t (inr m)))
to_all out (x ∷ xs) t (inr (here e)) = to_all (put_in x out) xs t (inl (to_put x out t (inl e)))
to_all out (x ∷ xs) t (inr (there m)) = to_all (put_in x out) xs t (inr m)

pub all_ascends : (out xs : List Pick) → PicksAscend out → PicksAscend (put_all out xs)
all_ascends out [] a = a
all_ascends out (x ∷ xs) a = all_ascends (put_in x out) xs (put_ascends x out a)

-- the same members make the same list
pub all_same : (out xs ys : List Pick) → PicksAscend out → ((k : Pick) → (k ∈ xs) ↔ (k ∈ ys)) → put_all out xs ≡ put_all out ys
all_same out xs ys a h =
    one_ascending (put_all out xs) (put_all out ys) (all_ascends out xs a) (all_ascends out ys a) (λ k. ((λ m. over k xs ys (h k).0 (from_all out xs k m)), (λ m. over k ys xs (h k).1 (from_all out ys k m))))
  where
    over : (k : Pick) (us vs : List Pick) → (k ∈ us → k ∈ vs) → (k ∈ out) ⊎ (k ∈ us) → k ∈ put_all out vs
    over k us vs f (inl m) = to_all out vs k (inl m)
    over k us vs f (inr m) = to_all out vs k (inr (f m))

pub all_is_ascending : (xs : List Pick) → put_all [] xs ≡ ascending xs
all_is_ascending xs = one_ascending (put_all [] xs) (ascending xs) (all_ascends [] xs tt) (ascending_ascends xs) (λ k. (to k, (λ m. to_all [] xs k (inr (from_ascending xs k m)))))
  where
    to : (k : Pick) → k ∈ put_all [] xs → k ∈ ascending xs
    to k m = elim (from_all [] xs k m) [ inl n ↦ elim n [ ] | inr n ↦ to_ascending xs k n ]

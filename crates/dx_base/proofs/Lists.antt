-- Lists from a place on, empty ones, and two lists place by place.
use Rattle.std.proofs.Common.{◌≡◌, ℕ, suc, ◌+◌, ◌<◌, List, ◌∷◌, sym, ◌∙◌, ap, length, drop, get_or, add-one, drop-cons, zero, [], arith, ◌≤◌, Bool, false, true, refl, Option, Some, None, inl, inr, ◌++◌, take, subst}
use Rattle.std.specs.Prelude.{◌==◌, ◌⊎◌, replicate, slice_get}
use Rattle.std.proofs.lemmas.Bool.{false≢true, eqb-true}
use Rattle.std.proofs.lemmas.List.{take_more}
use Rattle.std.specs.List.{AllZip}
use Rattle.dx_base.specs.Members.{◌∈◌, here, there}

-- the list from a place on
pub cut_at : {X : Type 0} (xs : List X) (i : ℕ) (x : X) → i < length xs → x ≡ get_or xs i x → drop i xs ≡ x ∷ drop (i + 1) xs
cut_at xs i x h e = rw (add-one i) (drop-cons xs i x h ∙ ap (λ z. z ∷ drop (suc i) xs) (sym e))

-- looking for a number from a place on: it is not at that place, or none are left
pub skip_listed : (vars : List ℕ) (i x : ℕ) → i < length vars → ¬ (get_or vars i 0 ≡ x) → x ∈ drop i vars → x ∈ drop (i + 1) vars
skip_listed [] i x h n m = absurd (omega arith)
skip_listed (y ∷ ys) zero x h n m = behind m
  where
    behind : x ∈ (y ∷ ys) → x ∈ drop 1 (y ∷ ys)
    behind (here e) = absurd (n e)
    behind (there k) = k
skip_listed (y ∷ ys) (suc i) x h n m =
    let e : suc i + 1 ≡ suc (i + 1) = omega arith in
    rw e (skip_listed ys i x (omega arith) n m)

pub nothing_left : (vars : List ℕ) (i x : ℕ) → length vars ≤ i → ¬ (x ∈ drop i vars)
nothing_left [] zero x h m = elim m [ ]
nothing_left [] (suc i) x h m = elim m [ ]
nothing_left (y ∷ ys) zero x h m = absurd (omega arith)
nothing_left (y ∷ ys) (suc i) x h m = nothing_left ys i x (omega arith) m

-- a test for the empty list
pub not_empty : {X : Type 0} (xs : List X) (b : Bool) → b ≡ (length xs == 0) → b ≡ false → ¬ (xs ≡ [])
not_empty [] b e h = λ k. false≢true (sym h ∙ e)
not_empty (x ∷ xs) b e h = λ k. cc k

pub is_empty : {X : Type 0} (xs : List X) (b : Bool) → b ≡ (length xs == 0) → b ≡ true → xs ≡ []
is_empty [] b e h = refl
is_empty (x ∷ xs) b e h = let k = eqb-true (length (x ∷ xs)) 0 (sym e ∙ h) in absurd (omega (arith, k))

-- an option has nothing or something
pub none_or_some : {X : Type 0} (o : Option X) → (o ≡ None) ⊎ ((x : X) × (o ≡ Some x))
none_or_some None = inl refl
none_or_some (Some x) = inr (x, refl)

-- two lists that agree place by place: one more of each, as many in both, and what follows
pub zip_push : {X Y : Type 0} (R : X → Y → Type 0) (xs : List X) (ys : List Y) (x : X) (y : Y) → AllZip R xs ys → R x y → AllZip R (xs ++ x ∷ []) (ys ++ y ∷ [])
zip_push R [] [] x y h r = (r, tt)
zip_push R [] (w ∷ ys) x y h r = absurd h
zip_push R (u ∷ xs) [] x y h r = absurd h
zip_push R (u ∷ xs) (w ∷ ys) x y h r = (h.0, zip_push R xs ys x y h.1 r)

pub zip_long : {X Y : Type 0} (R : X → Y → Type 0) (xs : List X) (ys : List Y) → AllZip R xs ys → length xs ≡ length ys
zip_long R [] [] z = refl
zip_long R [] (y ∷ ys) z = absurd z
zip_long R (x ∷ xs) [] z = absurd z
zip_long R (x ∷ xs) (y ∷ ys) z = ap suc (zip_long R xs ys z.1)

pub zip_grow : {X Y : Type 0} (R Q : X → Y → Type 0) (xs : List X) (ys : List Y) → ((x : X) (y : Y) → R x y → Q x y) → AllZip R xs ys → AllZip Q xs ys
zip_grow R Q [] [] f z = tt
zip_grow R Q [] (y ∷ ys) f z = absurd z
zip_grow R Q (x ∷ xs) [] f z = absurd z
zip_grow R Q (x ∷ xs) (y ∷ ys) f z = (f x y z.0, zip_grow R Q xs ys f z.1)

-- lists with equal heads
pub head_is : (b c : ℕ) (xs ys : List ℕ) → b ∷ xs ≡ c ∷ ys → b ≡ c
head_is b c xs ys e = cc

-- what stands at a place, asked for with a default and without one
pub get_at : {X : Type 0} (xs : List X) (i : ℕ) (x : X) → i < length xs → x ≡ get_or xs i x → slice_get xs i ≡ Some x
get_at [] i x h e = absurd (omega arith)
get_at (y ∷ xs) zero x h e = ap Some (sym e)
get_at (y ∷ xs) (suc i) x h e = get_at xs i x (omega arith) e

-- what stands at a place is a member
pub get_in : {X : Type 0} (xs : List X) (i : ℕ) (x : X) → slice_get xs i ≡ Some x → x ∈ xs
get_in [] i x e = absurd (no e)
  where
    no : None ≡ Some x → ⊥
    no e = cc
get_in (y ∷ xs) zero x e = here (cc)
get_in (y ∷ xs) (suc i) x e = there (get_in xs i x e)

-- nothing is left past the end
pub drop_past : {X : Type 0} (xs : List X) (i : ℕ) → length xs ≤ i → drop i xs ≡ []
drop_past [] zero h = refl
drop_past [] (suc i) h = refl
drop_past (x ∷ xs) zero h = absurd (omega (arith, h))
drop_past (x ∷ xs) (suc i) h = drop_past xs i (omega (arith, h))

-- a list of length 0 is empty
pub none_of_length : {X : Type 0} (xs : List X) → length xs ≡ 0 → xs ≡ []
none_of_length [] e = refl
none_of_length (x ∷ xs) e = absurd (omega (arith, e))

-- two lists place by place, at a place
pub zip_at : {X Y : Type 0} (R : X → Y → Type 0) (xs : List X) (ys : List Y) (i : ℕ) (d : X) (e : Y) → AllZip R xs ys → i < length xs → R (get_or xs i d) (get_or ys i e)
zip_at R [] [] i d e z h = absurd (omega arith)
zip_at R [] (y ∷ ys) i d e z h = absurd z
zip_at R (x ∷ xs) [] i d e z h = absurd z
zip_at R (x ∷ xs) (y ∷ ys) zero d e z h = z.0
zip_at R (x ∷ xs) (y ∷ ys) (suc i) d e z h = zip_at R xs ys i d e z.1 (omega (arith, h))

-- one place more of two lists place by place
pub zip_more : {X Y : Type 0} (R : X → Y → Type 0) (xs : List X) (ys : List Y) (i : ℕ) (x : X) (y : Y) → i < length xs → x ≡ get_or xs i x → AllZip R (take i xs) ys → R x y → AllZip R (take (i + 1) xs) (ys ++ y ∷ [])
zip_more R xs ys i x y h e z r = rw (take_more xs i x h, ← e) (zip_push R (take i xs) ys x y z r)

-- a member of the first list has a partner in the second
pub to_zip : {X Y : Type 0} (R : X → Y → Type 0) (xs : List X) (ys : List Y) (x : X) → AllZip R xs ys → x ∈ xs → (y : Y) × (y ∈ ys) × R x y
to_zip R [] ys x z m = elim m [ ]
to_zip R (x ∷ xs) [] w z m = absurd z
to_zip {X} {Y} R (x ∷ xs) (y ∷ ys) w z (here e) = (y, here refl, subst (λ (u : X). R u y) e z.0)
to_zip R (x ∷ xs) (y ∷ ys) w z (there m) = let r = to_zip R xs ys w z.1 m in (r.0, there r.1, r.2)

-- a member of the second list has a partner in the first
pub from_zip : {X Y : Type 0} (R : X → Y → Type 0) (xs : List X) (ys : List Y) (y : Y) → AllZip R xs ys → y ∈ ys → (x : X) × (x ∈ xs) × R x y
from_zip R xs [] y z m = elim m [ ]
from_zip R [] (y ∷ ys) w z m = absurd z
from_zip {X} {Y} R (x ∷ xs) (y ∷ ys) w z (here e) = (x, here refl, subst (λ (u : Y). R x u) e z.0)
from_zip R (x ∷ xs) (y ∷ ys) w z (there m) = let r = from_zip R xs ys w z.1 m in (r.0, there r.1, r.2)

-- a list of marks that are all false is false at each place, and past its end
pub none_in : (n p : ℕ) → get_or (replicate n false) p false ≡ false
none_in zero p = refl
none_in (suc n) zero = refl
none_in (suc n) (suc p) = none_in n p

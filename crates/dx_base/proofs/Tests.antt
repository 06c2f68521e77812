-- Members of lists by tests, and functions that agree on members.
use Rattle.std.proofs.Common.{◌≡◌, List, [], ◌∷◌, refl, sym, ◌∙◌, subst, inl, inr}
use Rattle.std.specs.Prelude.{Bool, true, false, map}
use Rattle.std.specs.List.{flat_map, list_any, list_all, filter}
use Rattle.std.proofs.lemmas.Bool.{cases_Bool, cond-true, cond-false, or_left, or_right, and_parts, false≢true, true≢false}
use Rattle.dx_base.specs.Members.{◌∈◌, here, there}

-- ---- functions that agree on the members

pub flat_map_same : {X Y : Type 0} (f g : X → List Y) (xs : List X) → ((x : X) → x ∈ xs → f x ≡ g x) → flat_map f xs ≡ flat_map g xs
flat_map_same f g [] h = refl
flat_map_same f g (x ∷ xs) h =
    let e = h x (here refl) in
    let r = flat_map_same f g xs (λ y m. h y (there m)) in
    cc

pub any_same : {X : Type 0} (f g : X → Bool) (xs : List X) → ((x : X) → x ∈ xs → f x ≡ g x) → list_any f xs ≡ list_any g xs
any_same f g [] h = refl
any_same f g (x ∷ xs) h =
    let e = h x (here refl) in
    let r = any_same f g xs (λ y m. h y (there m)) in
    cc

pub map_same : {X Y : Type 0} (f g : X → Y) (xs : List X) → ((x : X) → x ∈ xs → f x ≡ g x) → map f xs ≡ map g xs
map_same f g [] h = refl
map_same f g (x ∷ xs) h =
    let a = h x (here refl) in
    let b = map_same f g xs (λ y m. h y (there m)) in
    cc

-- ---- members by tests

pub from_any : {X : Type 0} (p : X → Bool) (xs : List X) → list_any p xs ≡ true → (x : X) × (x ∈ xs) × (p x ≡ true)
from_any p [] h = absurd (false≢true h)
from_any p (x ∷ xs) h = elim (cases_Bool (p x)) [
  | inl t ↦ (x, here refl, t)
  | inr f ↦ let r = from_any p xs (rw f at h) in (r.0, there r.1, r.2)
]

pub to_any : {X : Type 0} (p : X → Bool) (xs : List X) {x : X} → x ∈ xs → p x ≡ true → list_any p xs ≡ true
to_any p [] m t = elim m [ ]
to_any p (y ∷ xs) (here e) t = or_left (p y) (list_any p xs) (rw e t)
to_any p (y ∷ xs) (there m) t = or_right (p y) (list_any p xs) (to_any p xs m t)

-- where none passes, this one doesn't
pub none_of : {X : Type 0} (p : X → Bool) (xs : List X) (x : X) → list_any p xs ≡ false → x ∈ xs → p x ≡ false
none_of p xs x h m = elim (cases_Bool (p x)) [
  | inl t ↦ absurd (true≢false (sym (to_any p xs m t) ∙ h))
  | inr f ↦ f
]

pub from_all : {X : Type 0} (p : X → Bool) (xs : List X) {x : X} → list_all p xs ≡ true → x ∈ xs → p x ≡ true
from_all p [] h m = elim m [ ]
from_all p (y ∷ xs) h (here e) = rw e at (and_parts (p y) (list_all p xs) h).0
from_all p (y ∷ xs) h (there m) = from_all p xs (and_parts (p y) (list_all p xs) h).1 m

pub to_all : {X : Type 0} (p : X → Bool) (xs : List X) → ((x : X) → x ∈ xs → p x ≡ true) → list_all p xs ≡ true
to_all p [] h = refl
to_all p (x ∷ xs) h = rw (h x (here refl)) (to_all p xs (λ y m. h y (there m)))

first_kept : {X : Type 0} (p : X → Bool) (y : X) (xs ys : List X) {x : X} → p y ≡ true → (x ∈ ys → (x ∈ xs) × (p x ≡ true)) → x ∈ (y ∷ ys) → (x ∈ (y ∷ xs)) × (p x ≡ true)
first_kept {X} p y xs ys {x} t h (here e) = let Q : X → Type 0 = λ z. p z ≡ true in (here e, subst Q e t)
first_kept p y xs ys t h (there m) = let r = h m in (there r.0, r.1)

pub from_filter : {X : Type 0} (p : X → Bool) (xs : List X) {x : X} → x ∈ filter p xs → (x ∈ xs) × (p x ≡ true)
from_filter p [] m = elim m [ ]
from_filter {X} p (y ∷ xs) {x} m = elim (cases_Bool (p y)) [
  | inl t ↦ first_kept p y xs (filter p xs) t (λ n. from_filter p xs n) (rw (cond-true (p y) (y ∷ filter p xs) (filter p xs) t) at m)
  | inr f ↦ let r = from_filter p xs (rw (cond-false (p y) (y ∷ filter p xs) (filter p xs) f) at m) in (there r.0, r.1)
]

pub to_filter : {X : Type 0} (p : X → Bool) (xs : List X) {x : X} → x ∈ xs → p x ≡ true → x ∈ filter p xs
to_filter p [] m t = elim m [ ]
to_filter p (y ∷ xs) {x} (here e) t = let u : p y ≡ true = rw e t in rw (cond-true (p y) (y ∷ filter p xs) (filter p xs) u) (here e)
to_filter p (y ∷ xs) {x} (there m) t = elim (cases_Bool (p y)) [
  | inl u ↦ rw (cond-true (p y) (y ∷ filter p xs) (filter p xs) u) (there (to_filter p xs m t))
  | inr f ↦ rw (cond-false (p y) (y ∷ filter p xs) (filter p xs) f) (to_filter p xs m t)
]

-- two tests that pass together are one
pub same_test : (a b : Bool) → (a ≡ true → b ≡ true) → (b ≡ true → a ≡ true) → a ≡ b
same_test true b f g = sym (f refl)
same_test false true f g = g refl
same_test false false f g = refl

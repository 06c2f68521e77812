-- Members of lists.
use Rattle.std.proofs.Common.{◌≡◌, ℕ, zero, suc, ◌<◌, List, [], ◌∷◌, ◌++◌, ◌⊎◌, inl, inr, refl, ap, subst, arith, length, get_or, Contains, ◌≤◌, take, sym, ◌∙◌}
use Rattle.std.specs.Prelude.{map, flat_map}
use Rattle.std.proofs.lemmas.List.{take_all}
use Rattle.dx_base.specs.Members.{◌∈◌, ◌≈◌, Each, here, there, Distinct, ◌⊆◌}

pub in_map : {X Y : Type 0} (f : X → Y) {x : X} {xs : List X} → x ∈ xs → f x ∈ map f xs
in_map f (here e) = here (ap f e)
in_map f (there h) = there (in_map f h)

pub from_map : {X Y : Type 0} (f : X → Y) (xs : List X) {y : Y} → y ∈ map f xs → (x : X) × (x ∈ xs) × (f x ≡ y)
from_map f [] h = elim h [ ]
from_map f (x ∷ xs) (here e) = (x, here refl, e)
from_map f (x ∷ xs) (there h) = let r = from_map f xs h in (r.0, there r.1, r.2)

pub in_left : {X : Type 0} {x : X} {xs : List X} (ys : List X) → x ∈ xs → x ∈ (xs ++ ys)
in_left ys (here e) = here e
in_left ys (there h) = there (in_left ys h)

pub in_right : {X : Type 0} {x : X} (xs : List X) {ys : List X} → x ∈ ys → x ∈ (xs ++ ys)
in_right [] h = h
in_right (x ∷ xs) h = there (in_right xs h)

pub from_append : {X : Type 0} {x : X} (xs : List X) {ys : List X} → x ∈ (xs ++ ys) → (x ∈ xs) ⊎ (x ∈ ys)
from_append [] h = inr h
from_append (x ∷ xs) (here e) = inl (here e)
from_append (x ∷ xs) (there h) = elim (from_append xs h) [ inl l ↦ inl (there l) | inr r ↦ inr r ]

pub in_flat_map : {X Y : Type 0} (f : X → List Y) {x : X} {y : Y} {xs : List X} → x ∈ xs → y ∈ f x → y ∈ flat_map f xs
in_flat_map f (here e) h = rw e (in_left _ h)
in_flat_map f (there k) h = in_right _ (in_flat_map f k h)

pub from_flat_map : {X Y : Type 0} (f : X → List Y) (xs : List X) {y : Y} → y ∈ flat_map f xs → (x : X) × (x ∈ xs) × (y ∈ f x)
from_flat_map f [] h = elim h [ ]
from_flat_map {X} {Y} f (x ∷ xs) {y} h = elim (from_append (f x) h) [
  | inl l ↦ (x, here refl, l)
  | inr r ↦ let k = from_flat_map f xs r in (k.0, there k.1, k.2)
]

-- equal maps agree at each member
pub map_agrees : {X Y : Type 0} (f g : X → Y) {x : X} {xs : List X} → map f xs ≡ map g xs → x ∈ xs → f x ≡ g x
map_agrees f g {xs = []} e m = elim m [ ]
map_agrees f g {xs = y ∷ ys} e (here d) = rw (← d) (cc)
map_agrees f g {xs = y ∷ ys} e (there m) = map_agrees f g (cc) m

-- an element is a member
pub in_at : {X : Type 0} (xs : List X) (i : ℕ) (d : X) → i < length xs → get_or xs i d ∈ xs
in_at [] i d h = absurd (omega arith)
in_at (x ∷ xs) zero d h = here refl
in_at (x ∷ xs) (suc i) d h = there (in_at xs i d (omega arith))

-- std's word for a member says the same
pub contains_from_in : {X : Type 0} {x : X} {xs : List X} → x ∈ xs → Contains xs x
contains_from_in (here e) = (0, omega arith, e)
contains_from_in (there m) = let r = contains_from_in m in (suc r.0, omega (arith, r.1), r.2)

pub in_from_contains : {X : Type 0} (xs : List X) (x : X) → Contains xs x → x ∈ xs
in_from_contains [] x c = absurd (omega (arith, c.1))
in_from_contains (y ∷ ys) x c = go c.0 c.1 c.2 (λ d. in_from_contains ys x d)
  where
    go : (k : ℕ) → k < length (y ∷ ys) → get_or (y ∷ ys) k x ≡ x → (Contains ys x → x ∈ ys) → x ∈ (y ∷ ys)
    go zero h e f = here e
    go (suc k) h e f = there (f (k, omega arith, e))

-- ---- lists with the same members

pub same_members : {X : Type 0} (A : List X) → A ≈ A
same_members A = ((λ x m. m), (λ x m. m))

pub same_equal : {X : Type 0} {A B : List X} → A ≡ B → A ≈ B
same_equal {X} {A} {B} e = subst (λ C. A ≈ C) e (same_members A)

pub same_sym : {X : Type 0} {A B : List X} → A ≈ B → B ≈ A
same_sym s = (s.1, s.0)

pub same_trans : {X : Type 0} {A B C : List X} → A ≈ B → B ≈ C → A ≈ C
same_trans s t = ((λ x m. t.0 x (s.0 x m)), (λ x m. s.1 x (t.1 x m)))

pub same_append : {X : Type 0} {A B C D : List X} → A ≈ B → C ≈ D → (A ++ C) ≈ (B ++ D)
same_append {X} {A} {B} {C} {D} s t = (
  (λ x m. elim (from_append A m) [ inl l ↦ in_left D (s.0 x l) | inr r ↦ in_right B (t.0 x r) ]),
  (λ x m. elim (from_append B m) [ inl l ↦ in_left C (s.1 x l) | inr r ↦ in_right A (t.1 x r) ]),
)

pub same_map : {X Y : Type 0} (f : X → Y) {A B : List X} → A ≈ B → map f A ≈ map f B
same_map f {A} {B} s = (
  (λ y m. let r = from_map f A m in subst (λ z. z ∈ map f B) r.2 (in_map f (s.0 r.0 r.1))),
  (λ y m. let r = from_map f B m in subst (λ z. z ∈ map f A) r.2 (in_map f (s.1 r.0 r.1))),
)

-- what each member of one has, each member of the other has
pub same_each : {X : Type 0} {A B : List X} (P : X → Type 0) → A ≈ B → Each A P → Each B P
same_each P s e = λ x m. e x (s.1 x m)

-- an item of a list is its member
pub item_in : {X : Type 0} (xs : List X) (i : ℕ) (x : X) → i < length xs → x ≡ get_or xs i x → x ∈ xs
item_in xs i x h e = rw e (in_at xs i x h)

-- in a list of one number
pub only_one : (n c k : ℕ) → k ∈ (c ∷ []) → c < n → k < n
only_one n c k (here e) h = rw (← e) h
only_one n c k (there m) h = elim m [ ]

-- what each item has, the item at a place has
pub each_at : {X : Type 0} (P : X → Type 0) (xs : List X) (i : ℕ) (d : X) → i < length xs → Each xs P → P (get_or xs i d)
each_at P xs i d h e = e (get_or xs i d) (in_at xs i d h)

-- where the first items are all of them
pub each_all : {X : Type 0} (P : X → Type 0) (xs : List X) (i : ℕ) → length xs ≤ i → Each (take i xs) P → Each xs P
each_all P xs i h e x m = e x (rw (take_all i xs h) m)

-- one item more in front
pub each_cons : {X : Type 0} {P : X → Type 0} (x : X) (xs : List X) → P x → Each xs P → Each (x ∷ xs) P
each_cons {X} {P} x xs p each y (here e) = subst P e p
each_cons x xs p each y (there m) = each y m

-- a list with a new member at its end is distinct
pub distinct_more : {X : Type 0} (xs : List X) (x : X) → Distinct xs → ¬ (x ∈ xs) → Distinct (xs ++ x ∷ [])
distinct_more [] x d n = ((λ m. elim m [ ]), tt)
distinct_more (y ∷ ys) x d n = (first, distinct_more ys x d.1 (λ m. n (there m)))
  where
    last : y ∈ (x ∷ []) → ⊥
    last (here e) = n (here (sym e))
    last (there m) = elim m [ ]

    first : ¬ (y ∈ (ys ++ x ∷ []))
    first m = elim (from_append ys m) [ inl l ↦ d.0 l | inr r ↦ last r ]

-- a list with a member taken out has all others
pub take_out : {X : Type 0} {x : X} (ys : List X) → x ∈ ys → (zs : List X) × (length ys ≡ suc (length zs)) × ((z : X) → z ∈ ys → ¬ (z ≡ x) → z ∈ zs)
take_out [] m = elim m [ ]
take_out {X} {x} (y ∷ ys) (here e) = (ys, refl, others)
  where
    others : (z : X) → z ∈ (y ∷ ys) → ¬ (z ≡ x) → z ∈ ys
    others z (here f) d = absurd (d (sym f ∙ e))
    others z (there n) d = n
take_out {X} {x} (y ∷ ys) (there m) = let r = take_out ys m in (y ∷ r.0, ap suc r.1, others r.0 r.2)
  where
    others : (zs : List X) → ((z : X) → z ∈ ys → ¬ (z ≡ x) → z ∈ zs) → (z : X) → z ∈ (y ∷ ys) → ¬ (z ≡ x) → z ∈ (y ∷ zs)
    others zs f z (here e) d = here e
    others zs f z (there n) d = there (f z n d)

-- what has no repetitions is no longer than what has all its members
pub no_longer : {X : Type 0} (xs ys : List X) → Distinct xs → xs ⊆ ys → length xs ≤ length ys
no_longer [] ys d s = omega arith
no_longer {X} (x ∷ xs) ys d s =
    let r = take_out ys (s x (here refl)) in
    let i = no_longer xs r.0 d.1 (λ y m. r.2 y (s y (there m)) (λ e. d.0 (rw e at m))) in
    omega (arith, i, r.1)

-- what is in a list with one more at its end
pub at_last : (xs : List ℕ) (y i : ℕ) → i ∈ (xs ++ y ∷ []) → (i ∈ xs) ⊎ (y ≡ i)
at_last [] y i (here e) = inr e
at_last [] y i (there m) = elim m [ ]
at_last (x ∷ xs) y i (here e) = inl (here e)
at_last (x ∷ xs) y i (there m) = elim (at_last xs y i m) [ inl l ↦ inl (there l) | inr e ↦ inr e ]

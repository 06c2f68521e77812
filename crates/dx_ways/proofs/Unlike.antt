-- Lists of what is unlike all before it.
use Rattle.std.proofs.Common.{◌≡◌, ℕ, ◌+◌, ◌<◌, ◌||◌, Bool, true, false, cond, List, [], ◌∷◌, ◌++◌, ◌⊎◌, inl, inr, length, get_or, drop, refl, sym, ◌∙◌, ap, eqb}
use Rattle.std.specs.Prelude.{map}
use Rattle.std.specs.List.{list_any}
use Rattle.std.proofs.lemmas.Bool.{cases_Bool, cond-true, cond-false, false≢true}
use Rattle.std.proofs.lemmas.List.{drop_more, map-append}
use Rattle.dx_base.specs.Members.{◌∈◌, here, there}
use Rattle.dx_base.proofs.Members.{in_left, in_right, from_append}
use Rattle.dx_logical.specs.declared.relation.Occurrence.{Occurrence}
use Rattle.dx_lines.specs.declared.line.Place.{Place}
use Rattle.dx_lines.specs.Ways.{is_of, variable_in}
use Rattle.dx_ways.specs.Tried.{column_of, with_unlike}
use Rattle.dx_base.proofs.Tests.{from_any}

-- whether some item passes, of items that are shown otherwise
pub any_map : {X Y : Type 0} (p : X → Bool) (h : Y → X) (ys : List Y) → list_any p (map h ys) ≡ list_any (λ y. p (h y)) ys
any_map p h [] = refl
any_map p h (y ∷ ys) = ap (λ (b : Bool). p (h y) || b) (any_map p h ys)

-- ---- steps of the loops

pub unlike_added : {X : Type 0} (like : X → X → Bool) (out : List X) (x : X) (xs : List X) → list_any (λ y. like y x) out ≡ false → with_unlike like (out ++ x ∷ []) xs ≡ with_unlike like out (x ∷ xs)
unlike_added like out x xs n = rw (n) refl

pub unlike_left : {X : Type 0} (like : X → X → Bool) (out : List X) (x : X) (xs : List X) → list_any (λ y. like y x) out ≡ true → with_unlike like out xs ≡ with_unlike like out (x ∷ xs)
unlike_left like out x xs t = rw (t) refl

pub item_added : {X : Type 0} (like : X → X → Bool) (xs : List X) (i : ℕ) (x : X) (out new w : List X) → i < length xs → x ≡ get_or xs i x
    → list_any (λ y. like y x) out ≡ false → new ≡ out ++ x ∷ [] → with_unlike like out (drop i xs) ≡ w → with_unlike like new (drop (i + 1) xs) ≡ w
item_added like xs i x out new w h e n s k =
    let d : drop i xs ≡ x ∷ drop (i + 1) xs = rw (← e) at (drop_more xs i x h) in
    ap (λ o. with_unlike like o (drop (i + 1) xs)) s ∙ (unlike_added like out x (drop (i + 1) xs) n ∙ (ap (with_unlike like out) (sym d) ∙ k))

pub item_left : {X : Type 0} (like : X → X → Bool) (xs : List X) (i : ℕ) (x : X) (out new w : List X) → i < length xs → x ≡ get_or xs i x
    → list_any (λ y. like y x) out ≡ true → new ≡ out → with_unlike like out (drop i xs) ≡ w → with_unlike like new (drop (i + 1) xs) ≡ w
item_left like xs i x out new w h e n s k =
    let d : drop i xs ≡ x ∷ drop (i + 1) xs = rw (← e) at (drop_more xs i x h) in
    ap (λ o. with_unlike like o (drop (i + 1) xs)) s ∙ (unlike_left like out x (drop (i + 1) xs) n ∙ (ap (with_unlike like out) (sym d) ∙ k))

column_here : (a : Place) (o : Occurrence) (os : List Occurrence) → is_of a.table o ≡ true → column_of a (o ∷ os) ≡ variable_in o a.column ∷ column_of a os
column_here a o os t = rw (t) refl

column_past : (a : Place) (o : Occurrence) (os : List Occurrence) → is_of a.table o ≡ false → column_of a (o ∷ os) ≡ column_of a os
column_past a o os f = rw (f) refl

pub variable_added : (a : Place) (Q : List Occurrence) (i : ℕ) (o : Occurrence) (y : ℕ) (out new w : List ℕ) → i < length Q → o ≡ get_or Q i o → is_of a.table o ≡ true → y ≡ variable_in o a.column
    → list_any (λ x. eqb x y) out ≡ false → new ≡ out ++ y ∷ [] → with_unlike eqb out (column_of a (drop i Q)) ≡ w → with_unlike eqb new (column_of a (drop (i + 1) Q)) ≡ w
variable_added a Q i o y out new w h e t v n s k =
    let d : drop i Q ≡ o ∷ drop (i + 1) Q = rw (← e) at (drop_more Q i o h) in
    let c : column_of a (drop i Q) ≡ y ∷ column_of a (drop (i + 1) Q) = ap (column_of a) d ∙ (column_here a o (drop (i + 1) Q) t ∙ ap (λ x. x ∷ column_of a (drop (i + 1) Q)) (sym v)) in
    ap (λ z. with_unlike eqb z (column_of a (drop (i + 1) Q))) s ∙ (unlike_added eqb out y (column_of a (drop (i + 1) Q)) n ∙ (ap (with_unlike eqb out) (sym c) ∙ k))

pub variable_left : (a : Place) (Q : List Occurrence) (i : ℕ) (o : Occurrence) (y : ℕ) (out new w : List ℕ) → i < length Q → o ≡ get_or Q i o → is_of a.table o ≡ true → y ≡ variable_in o a.column
    → list_any (λ x. eqb x y) out ≡ true → new ≡ out → with_unlike eqb out (column_of a (drop i Q)) ≡ w → with_unlike eqb new (column_of a (drop (i + 1) Q)) ≡ w
variable_left a Q i o y out new w h e t v n s k =
    let d : drop i Q ≡ o ∷ drop (i + 1) Q = rw (← e) at (drop_more Q i o h) in
    let c : column_of a (drop i Q) ≡ y ∷ column_of a (drop (i + 1) Q) = ap (column_of a) d ∙ (column_here a o (drop (i + 1) Q) t ∙ ap (λ x. x ∷ column_of a (drop (i + 1) Q)) (sym v)) in
    ap (λ z. with_unlike eqb z (column_of a (drop (i + 1) Q))) s ∙ (unlike_left eqb out y (column_of a (drop (i + 1) Q)) n ∙ (ap (with_unlike eqb out) (sym c) ∙ k))

pub variable_past : (a : Place) (Q : List Occurrence) (i : ℕ) (o : Occurrence) (out new w : List ℕ) → i < length Q → o ≡ get_or Q i o → is_of a.table o ≡ false
    → new ≡ out → with_unlike eqb out (column_of a (drop i Q)) ≡ w → with_unlike eqb new (column_of a (drop (i + 1) Q)) ≡ w
variable_past a Q i o out new w h e f s k =
    let d : drop i Q ≡ o ∷ drop (i + 1) Q = rw (← e) at (drop_more Q i o h) in
    let c : column_of a (drop i Q) ≡ column_of a (drop (i + 1) Q) = ap (column_of a) d ∙ column_past a o (drop (i + 1) Q) f in
    ap (λ z. with_unlike eqb z (column_of a (drop (i + 1) Q))) s ∙ (ap (with_unlike eqb out) (sym c) ∙ k)

-- ---- members

pub from_unlike : {X : Type 0} (like : X → X → Bool) (out xs : List X) {y : X} → y ∈ with_unlike like out xs → (y ∈ out) ⊎ (y ∈ xs)
from_unlike like out [] m = inl m
from_unlike like out (x ∷ xs) {y} m = elim (from_unlike like (cond (list_any (λ z. like z x) out) out (out ++ x ∷ [])) xs m) [
  | inr n ↦ inr (there n)
  | inl n ↦ elim (cases_Bool (list_any (λ z. like z x) out)) [
    | inl t ↦ inl (rw (cond-true (list_any (λ z. like z x) out) out (out ++ x ∷ []) t) at n)
    | inr f ↦ elim (from_append out (rw (cond-false (list_any (λ z. like z x) out) out (out ++ x ∷ []) f) at n)) [ inl k ↦ inl k | inr k ↦ inr (last k) ]
  ]
]
  where
    last : y ∈ (x ∷ []) → y ∈ (x ∷ xs)
    last (here e) = here e
    last (there k) = elim k [ ]

in_added : {X : Type 0} (b : Bool) (out : List X) (x : X) {y : X} → y ∈ out → y ∈ cond b out (out ++ x ∷ [])
in_added true out x m = m
in_added false out x m = in_left (x ∷ []) m

pub keeps_unlike : {X : Type 0} (like : X → X → Bool) (out xs : List X) {y : X} → y ∈ out → y ∈ with_unlike like out xs
keeps_unlike like out [] m = m
keeps_unlike like out (x ∷ xs) m = keeps_unlike like (cond (list_any (λ z. like z x) out) out (out ++ x ∷ [])) xs (in_added (list_any (λ z. like z x) out) out x m)

-- for each there is one that is like it
pub to_unlike : {X : Type 0} (like : X → X → Bool) → ((x : X) → like x x ≡ true) → (out xs : List X) {x : X} → x ∈ xs → (y : X) × (y ∈ with_unlike like out xs) × (like y x ≡ true)
to_unlike like r out [] m = elim m [ ]
to_unlike like r out (z ∷ xs) {x} (there m) = to_unlike like r (cond (list_any (λ y. like y z) out) out (out ++ z ∷ [])) xs m
to_unlike like r out (z ∷ xs) {x} (here e) = elim (cases_Bool (list_any (λ y. like y z) out)) [
  | inl t ↦
      let k = from_any (λ y. like y z) out t in
      (k.0, keeps_unlike like out (z ∷ xs) k.1, rw (← e) k.2)
  | inr f ↦
      let n : z ∈ (out ++ z ∷ []) = in_right out (here refl) in
      (z, rw (cond-false (list_any (λ y. like y z) out) out (out ++ z ∷ []) f) (keeps_unlike like (out ++ z ∷ []) xs n), rw (← e) (r z))
]

-- ---- what loops see

pub seen_push : {A B : Type 0} (f : A → B) (xs ys : List A) (x : A) → ys ≡ xs ++ x ∷ [] → map f ys ≡ map f xs ++ f x ∷ []
seen_push f xs ys x e = rw (e) (map-append f xs (x ∷ []))

-- the first one that is like x
abbrev pub first_like : {X : Type 0} → (X → X → Bool) → List X → X → X
first_like like [] x = x
first_like like (y ∷ ys) x = cond (like y x) y (first_like like ys x)

pub first_like_is : {X : Type 0} (like : X → X → Bool) (ys : List X) (x : X) → list_any (λ y. like y x) ys ≡ true → (first_like like ys x ∈ ys) × (like (first_like like ys x) x ≡ true)
first_like_is like [] x h = absurd (false≢true h)
first_like_is like (y ∷ ys) x h = elim (cases_Bool (like y x)) [
  | inl t ↦ rw (cond-true (like y x) y (first_like like ys x) t) (here refl, t)
  | inr f ↦ let r = first_like_is like ys x (rw f at h) in rw (cond-false (like y x) y (first_like like ys x) f) (there r.0, r.1)
]

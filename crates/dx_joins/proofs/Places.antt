-- Places of variables, and rows that two rows make.
use Rattle.std.proofs.Common.{◌≡◌, ◌∙◌, ◌<◌, ◌+◌, ◌++◌, ◌∷◌, ℕ, suc, eqb, List, [], false, refl, sym, ap, subst, arith, length, get_or, drop, inl, inr}
use Rattle.std.specs.Prelude.{map, slice_index}
use Rattle.std.proofs.lemmas.Bool.{cases_Bool, eqb-true, eqb-false, eq-eqb, ne_eqb}
use Rattle.std.proofs.lemmas.List.{map-append, drop_more, length-map, length-append, get_or-map}
use Rattle.std.proofs.lemmas.Simd.{map-map}
use Rattle.dx_base.specs.Members.{◌∈◌, ◌⊆◌, here, there, Distinct, Each}
use Rattle.dx_base.proofs.Members.{in_right, from_map}
use Rattle.dx_base.proofs.Tests.{map_same}
use Rattle.dx_instance.specs.Cells.{row_key}
use Rattle.dx_joins.specs.Joining.{IsJoinOf}
use Rattle.dx_joins.specs.Looking.{numbers_at_places}
use Rattle.dx_joins.specs.Planning.{first_place}

rest : (x y : ℕ) (ys : List ℕ) → eqb x y ≡ false → x ∈ (y ∷ ys) → x ∈ ys
rest x y ys e (here d) = absurd (eqb-false x y e (sym d))
rest x y ys e (there m) = m

pub place_within : (xs : List ℕ) (x : ℕ) → x ∈ xs → first_place xs x < length xs
place_within [] x m = elim m [ ]
place_within (y ∷ ys) x m = elim (cases_Bool (eqb x y)) [
  | inl t ↦ rw t (omega arith)
  | inr f ↦ let h = place_within ys x (rest x y ys f m) in rw f (omega (arith, h))
]

-- the number at the place of a variable
pub at_place : (f : ℕ → ℕ) (xs : List ℕ) (x : ℕ) → x ∈ xs → slice_index (map f xs) (first_place xs x) ≡ f x
at_place f [] x m = elim m [ ]
at_place f (y ∷ ys) x m = elim (cases_Bool (eqb x y)) [
  | inl t ↦ rw t (ap f (sym (eqb-true x y t)))
  | inr n ↦ rw n (at_place f ys x (rest x y ys n m))
]

-- a row of numbers is what it gives to the places of its variables, if no variable stands twice
pub by_places : (xs r : List ℕ) (ys s : List ℕ) → Distinct xs → length r ≡ length xs → map (λ x. slice_index (r ++ s) (first_place (xs ++ ys) x)) xs ≡ r
by_places [] [] ys s d e = refl
by_places [] (n ∷ r) ys s d e = absurd (omega arith)
by_places (x ∷ xs) [] ys s d e = absurd (omega arith)
by_places (x ∷ xs) (n ∷ r) ys s d e =
    let first : slice_index (n ∷ (r ++ s)) (first_place (x ∷ (xs ++ ys)) x) ≡ n = rw (eq-eqb x x refl) refl in
    let others = map_same (λ y. slice_index (n ∷ (r ++ s)) (first_place (x ∷ (xs ++ ys)) y)) (λ y. slice_index (r ++ s) (first_place (xs ++ ys) y)) xs (λ y m. rw (ne_eqb y x (λ q. d.0 (subst (λ (z : ℕ). z ∈ xs) q m))) refl) in
    let more = by_places xs r ys s d.1 (omega arith) in
    cc (first, others, more)

-- what the firsts and the places of a plan tell
pub joined_from : (left right kept firsts places r s : List ℕ) → Distinct left → length r ≡ length left → firsts ≡ map (first_place (left ++ right)) right → places ≡ map (first_place (left ++ right)) kept
    → numbers_at_places (r ++ s) firsts ≡ s → (t : List ℕ) → t ≡ numbers_at_places (r ++ s) places → IsJoinOf left right kept r s t
joined_from left right kept firsts places r s d e f p a t q = record {
  numbers = λ x. slice_index (r ++ s) (first_place (left ++ right) x);
  first = sym (by_places left r right s d e);
  second = sym a ∙ ap (λ (l : List ℕ). numbers_at_places (r ++ s) l) f ∙ map-map (slice_index (r ++ s)) (first_place (left ++ right)) right;
  whole = q ∙ ap (λ (l : List ℕ). numbers_at_places (r ++ s) l) p ∙ map-map (slice_index (r ++ s)) (first_place (left ++ right)) kept;
}

gathered : (f : ℕ → ℕ) (names xs : List ℕ) → xs ⊆ names → numbers_at_places (map f names) (map (first_place names) xs) ≡ map f xs
gathered f names xs within = map-map (slice_index (map f names)) (first_place names) xs ∙ map_same (λ x. slice_index (map f names) (first_place names x)) f xs (λ x m. at_place f names x (within x m))

pub joined_agree : (left right kept firsts r s t : List ℕ) → firsts ≡ map (first_place (left ++ right)) right → IsJoinOf left right kept r s t → numbers_at_places (r ++ s) firsts ≡ s
joined_agree left right kept firsts r s t f j =
    let both : r ++ s ≡ map j.numbers (left ++ right) = ap (λ (l : List ℕ). l ++ s) j.first ∙ ap (λ (l : List ℕ). map j.numbers left ++ l) j.second ∙ sym (map-append j.numbers left right) in
    ap (λ (l : List ℕ). numbers_at_places l firsts) both ∙ ap (λ (l : List ℕ). numbers_at_places (map j.numbers (left ++ right)) l) f ∙ gathered j.numbers (left ++ right) right (λ x m. in_right left m) ∙ sym j.second

pub joined_is : (left right kept places r s t : List ℕ) → kept ⊆ (left ++ right) → places ≡ map (first_place (left ++ right)) kept → IsJoinOf left right kept r s t → t ≡ numbers_at_places (r ++ s) places
joined_is left right kept places r s t k p j =
    let both : r ++ s ≡ map j.numbers (left ++ right) = ap (λ (l : List ℕ). l ++ s) j.first ∙ ap (λ (l : List ℕ). map j.numbers left ++ l) j.second ∙ sym (map-append j.numbers left right) in
    j.whole ∙ sym (ap (λ (l : List ℕ). numbers_at_places l places) both ∙ ap (λ (l : List ℕ). numbers_at_places (map j.numbers (left ++ right)) l) p ∙ gathered j.numbers (left ++ right) kept k)

-- rows that join have the same key
shared_at : (f : ℕ → ℕ) (xs places : List ℕ) → Each places (λ i. i < length xs) → numbers_at_places (map f xs) places ≡ map f (map (slice_index xs) places)
shared_at f xs places w = map_same (slice_index (map f xs)) (λ i. f (slice_index xs i)) places (λ i m. get_or-map f xs i 0 0 (w i m)) ∙ sym (map-map f (slice_index xs) places)

pub keys_meet : (left right kept by_left by_right r s t : List ℕ) → Each by_left (λ i. i < length left) → Each by_right (λ i. i < length right) → map (slice_index left) by_left ≡ map (slice_index right) by_right
    → IsJoinOf left right kept r s t → row_key (numbers_at_places r by_left) ≡ row_key (numbers_at_places s by_right)
keys_meet left right kept by_left by_right r s t u v e j =
    ap row_key (ap (λ (l : List ℕ). numbers_at_places l by_left) j.first ∙ shared_at j.numbers left by_left u ∙ ap (map j.numbers) e ∙ sym (shared_at j.numbers right by_right v) ∙ ap (λ (l : List ℕ). numbers_at_places l by_right) (sym j.second))

pub skip_same : (vars : List ℕ) (i x : ℕ) → i < length vars → ¬ (get_or vars i 0 ≡ x) → first_place (drop i vars) x ≡ suc (first_place (drop (i + 1) vars) x)
skip_same vars i x h n = ap (λ (l : List ℕ). first_place l x) (drop_more vars i 0 h) ∙ go
  where
    go : first_place (get_or vars i 0 ∷ drop (i + 1) vars) x ≡ suc (first_place (drop (i + 1) vars) x)
    go = rw (ne_eqb x (get_or vars i 0) (λ e. n (sym e))) refl

pub is_here : (vars : List ℕ) (i x : ℕ) → i < length vars → get_or vars i 0 ≡ x → first_place (drop i vars) x ≡ 0
is_here vars i x h e = ap (λ (l : List ℕ). first_place l x) (drop_more vars i 0 h) ∙ go
  where
    go : first_place (get_or vars i 0 ∷ drop (i + 1) vars) x ≡ 0
    go = rw (eq-eqb x (get_or vars i 0) (sym e)) refl

pub place_left : (left right : List ℕ) (x : ℕ) → first_place (left ++ right) x < length left → slice_index left (first_place (left ++ right) x) ≡ x
place_left [] right x h = absurd (omega arith)
place_left (y ∷ ys) right x h = elim (cases_Bool (eqb x y)) [
  | inl t ↦ rw t (sym (eqb-true x y t))
  | inr f ↦ rw f (place_left ys right x (let k : suc (first_place (ys ++ right) x) < suc (length ys) = rw f at h in omega (arith, k)))
]

pub places_within : (left right xs places : List ℕ) → xs ⊆ (left ++ right) → places ≡ map (first_place (left ++ right)) xs → Each places (λ i. i < length left + length right)
places_within left right xs places w e i m =
    let r = from_map (first_place (left ++ right)) xs (subst (λ (l : List ℕ). i ∈ l) e m) in
    let h = place_within (left ++ right) r.0 (w r.0 r.1) in
    omega (arith, h, r.2, length-append left right)

-- a shared variable more
pub shared_more : (left right firsts by_left by_right : List ℕ) (column : ℕ) → firsts ≡ map (first_place (left ++ right)) right → column < length firsts → slice_index firsts column < length left
    → map (slice_index left) by_left ≡ map (slice_index right) by_right
    → map (slice_index left) (by_left ++ slice_index firsts column ∷ []) ≡ map (slice_index right) (by_right ++ column ∷ [])
shared_more left right firsts by_left by_right column e h w s =
    let many : length firsts ≡ length right = ap length e ∙ length-map right (first_place (left ++ right)) in
    let at : slice_index firsts column ≡ first_place (left ++ right) (slice_index right column) = ap (λ (l : List ℕ). slice_index l column) e ∙ get_or-map (first_place (left ++ right)) right column 0 0 (omega (arith, h, many)) in
    let one : slice_index left (slice_index firsts column) ≡ slice_index right column = ap (slice_index left) at ∙ place_left left right (slice_index right column) (rw at at w) in
    map-append (slice_index left) by_left (slice_index firsts column ∷ []) ∙ ap (λ (l : List ℕ). l ++ slice_index left (slice_index firsts column) ∷ []) s
    ∙ ap (λ (x : ℕ). map (slice_index right) by_right ++ x ∷ []) one ∙ sym (map-append (slice_index right) by_right (column ∷ []))

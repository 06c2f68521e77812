-- Tuples of texts that lie one after the other.
use Rattle.std.proofs.Common.{◌≡◌, ◌∙◌, ◌+◌, ◌*◌, ◌-◌, ◌<◌, ◌≤◌, ◌++◌, ◌∷◌, ℕ, zero, suc, List, [], refl, sym, ap, arith, length, get_or, take, drop, add-one}
use Rattle.std.proofs.lemmas.List.{length-drop, drop-drop, take_all, take-append-le, drop-append-le, nil_from_length}
use Rattle.dx_model.specs.Values.{Tuple}
use Rattle.dx_base.specs.Texts.{Text}
use Rattle.dx_model.specs.Tuples.{in_tuples}

pub length_tuples : (n w : ℕ) (texts : List Text) → length (in_tuples n w texts) ≡ n
length_tuples zero w texts = refl
length_tuples (suc n) w texts = ap suc (length_tuples n w (drop w texts))

-- the tuple at a place
tuple_is : (n w : ℕ) (texts : List Text) (p d : ℕ) → p < n → d ≡ p * w → get_or (in_tuples n w texts) p [] ≡ take w (drop d texts)
tuple_is zero w texts p d h e = absurd (omega arith)
tuple_is (suc n) w texts zero d h e = let z : d ≡ 0 = omega (arith, e) in rw z refl
tuple_is (suc n) w texts (suc p) d h e =
    let s : w + p * w ≡ d = omega (arith, e) in
    tuple_is n w (drop w texts) p (p * w) (omega arith) refl ∙ ap (λ (l : List Text). take w l) (drop-drop (p * w) w texts ∙ ap (λ (m : ℕ). drop m texts) s)

-- a row lies within the cells
pub row_within : (n w p : ℕ) → p < n → p * w + w ≤ n * w
row_within (suc n) w zero h = omega arith
row_within zero w p h = absurd (omega arith)
row_within (suc n) w (suc p) h = let r = row_within n w p (omega arith) in omega (arith, r)

pub tuple_within : (ts : List Tuple) (n w : ℕ) (texts : List Text) (p : ℕ) → in_tuples n w texts ≡ ts → length texts ≡ n * w → p < length ts → p * w + w ≤ length texts
tuple_within ts n w texts p v e h =
    let many : n ≡ length ts = sym (length_tuples n w texts) ∙ ap (λ (l : List Tuple). length l) v in
    let b : p < n = omega (arith, many, h) in
    let r = row_within n w p b in
    omega (arith, e, r)

pub tuple_at : (ts : List Tuple) (n w : ℕ) (texts all : List Text) (p : ℕ) → in_tuples n w texts ≡ ts → all ≡ texts → p < length ts → take (p * w + w - p * w) (drop (p * w) all) ≡ get_or ts p []
tuple_at ts n w texts all p v a h =
    let many : n ≡ length ts = sym (length_tuples n w texts) ∙ ap (λ (l : List Tuple). length l) v in
    let b : p < n = omega (arith, many, h) in
    let d : p * w + w - p * w ≡ w = omega arith in
    rw (d, a) (sym (tuple_is n w texts p (p * w) b refl) ∙ ap (λ (l : List Tuple). get_or l p []) v)

tuples_more : (n w : ℕ) (texts more : List Text) → length texts ≡ n * w → length more ≡ w → in_tuples (suc n) w (texts ++ more) ≡ in_tuples n w texts ++ more ∷ []
tuples_more zero w texts more e l =
    let none : texts ≡ [] = nil_from_length texts (omega (arith, e)) in
    rw none (ap (λ (t : Tuple). t ∷ []) (take_all w more (omega (arith, l))))
tuples_more (suc n) w texts more e l =
    let long : w ≤ length texts = omega (arith, e) in
    let rest : length (drop w texts) ≡ n * w = omega (arith, e, length-drop w texts) in
    rw (take-append-le w texts more long, drop-append-le w texts more long) (ap (λ (ts : List Tuple). take w texts ∷ ts) (tuples_more n w (drop w texts) more rest l))

-- the texts of one tuple more
pub tuples_push : (n w : ℕ) (texts more : List Text) → length texts ≡ n * w → length more ≡ w → in_tuples (n + 1) w (texts ++ more) ≡ in_tuples n w texts ++ more ∷ []
tuples_push n w texts more e l = rw add-one (tuples_more n w texts more e l)

-- two tuples of two texts, and two of none
two_of_two : (a b c d : Text) → in_tuples 2 2 (a ∷ b ∷ c ∷ d ∷ []) ≡ (a ∷ b ∷ []) ∷ (c ∷ d ∷ []) ∷ []
two_of_two a b c d = refl

two_of_none : in_tuples 2 0 [] ≡ [] ∷ [] ∷ []
two_of_none = refl

-- Values in order that lie in two parts, and those after them.
use Rattle.std.proofs.Common.{◌≡◌, ◌∙◌, ◌+◌, ◌<◌, ◌^◌, ◌++◌, ◌∷◌, ℕ, List, [], sym, ap, arith, length, get_or}
use Rattle.std.proofs.lemmas.List.{length-append, get_or_append_left, get_or-append-add, get_or_default, append-nil, append_assoc}
use Rattle.dx_model.specs.declared.values.Value.{Value}
use Rattle.dx_model.specs.declared.values.Value.TheVariants.{Const}
use Rattle.dx_instance.specs.Numbers.{ValuesDiffer, ValuesAscend, value_of}
use Rattle.dx_instance.proofs.RankFacts.{ascend_apart}

-- each part of values in order is in order
pub ascend_left : (xs ys : List Value) → ValuesAscend (xs ++ ys) → ValuesAscend xs
ascend_left xs ys up i j d h k =
    let a = get_or_append_left xs ys d i (omega (arith, h, k)) in
    let b = get_or_append_left xs ys d j k in
    rw (a, b) at (up i j d h (omega (arith, k, length-append xs ys)))

pub ascend_right : (xs ys : List Value) → ValuesAscend (xs ++ ys) → ValuesAscend ys
ascend_right xs ys up i j d h k =
    let a = get_or-append-add xs ys i d in
    let b = get_or-append-add xs ys j d in
    rw (a, b) at (up (length xs + i) (length xs + j) d (omega (arith, h)) (omega (arith, k, length-append xs ys)))

pub found_second : (xs ys : List Value) (v : Value) (i n : ℕ) → n ≡ length xs → (i < length ys) × (value_of ys i ≡ v) → (n + i < length (xs ++ ys)) × (value_of (xs ++ ys) (n + i) ≡ v)
found_second xs ys v i n l f =
    let b = f.0 in
    (omega (arith, b, l, length-append xs ys), ap (λ (m : ℕ). get_or (xs ++ ys) (m + i) (Const [])) l ∙ get_or-append-add xs ys i (Const []) ∙ f.1)

read : (xs : List Value) (n : ℕ) (v : Value) → n < length xs → v ≡ get_or xs n v → v ≡ value_of xs n
read xs n v h e = e ∙ get_or_default xs n v (Const []) h

-- the value under a number, by the part in which it lies
pub at_first : (xs ys zs : List Value) (n : ℕ) (v : Value) → n < length xs → v ≡ get_or xs n v → v ≡ value_of (xs ++ ys ++ zs) n
at_first xs ys zs n v h e =
    read xs n v h e ∙ sym (get_or_append_left xs ys (Const []) n h) ∙ sym (get_or_append_left (xs ++ ys) zs (Const []) n (omega (arith, h, length-append xs ys)))

pub at_second : (xs ys zs : List Value) (n r : ℕ) (v : Value) → length xs + r ≡ n → r < length ys → v ≡ get_or ys r v → v ≡ value_of (xs ++ ys ++ zs) n
at_second xs ys zs n r v q h e =
    read ys r v h e ∙ sym (get_or-append-add xs ys r (Const [])) ∙ ap (λ (m : ℕ). get_or (xs ++ ys) m (Const [])) q ∙ sym (get_or_append_left (xs ++ ys) zs (Const []) n (omega (arith, h, q, length-append xs ys)))

pub at_third : (xs ys zs : List Value) (n r : ℕ) (v : Value) → length xs + length ys + r ≡ n → r < length zs → v ≡ get_or zs r v → v ≡ value_of (xs ++ ys ++ zs) n
at_third xs ys zs n r v q h e =
    read zs r v h e ∙ sym (get_or-append-add (xs ++ ys) zs r (Const [])) ∙ ap (λ (m : ℕ). get_or (xs ++ ys ++ zs) m (Const [])) (ap (λ (m : ℕ). m + r) (length-append xs ys) ∙ q)

pub in_parts : (xs ys zs : List Value) → length (xs ++ ys ++ zs) ≡ length xs + length ys + length zs
in_parts xs ys zs = length-append (xs ++ ys) zs ∙ ap (λ (n : ℕ). n + length zs) (length-append xs ys)

pub all_ordered : (xs ys zs : List Value) → ys ≡ [] → zs ≡ [] → xs ++ ys ++ zs ≡ xs
all_ordered xs ys zs e f = ap (λ (l : List Value). xs ++ l ++ zs) e ∙ ap (λ (l : List Value). l ++ zs) (append-nil xs) ∙ ap (λ (l : List Value). xs ++ l) f ∙ append-nil xs

pub ordered_fits : (xs ys zs : List Value) → ys ≡ [] → zs ≡ [] → ValuesAscend xs → length xs < 2 ^ 32 → ValuesAscend (xs ++ ys) × ValuesDiffer (xs ++ ys ++ zs) × (length (xs ++ ys ++ zs) < 2 ^ 32)
ordered_fits xs ys zs e f up few =
    let first : xs ++ ys ≡ xs = ap (λ (l : List Value). xs ++ l) e ∙ append-nil xs in
    let whole = all_ordered xs ys zs e f in
    (rw first up, rw whole (ascend_apart xs up), rw whole few)

-- one value more in the second part
pub second_more : (xs ys new : List Value) (v : Value) → new ≡ ys ++ v ∷ [] → xs ++ new ≡ xs ++ ys ++ v ∷ []
second_more xs ys new v e = ap (λ (l : List Value). xs ++ l) e ∙ sym (append_assoc xs ys (v ∷ []))

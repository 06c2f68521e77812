-- What a set of names answers.
use Rattle.std.proofs.Common.{◌≡◌, ℕ, suc, ◌+◌, ◌<◌, List, [], ◌∷◌, ◌++◌, Some, None, Bool, true, false, cond, length, refl, sym, ap, ◌∙◌, nat_eq, position, arith}
use Rattle.std.specs.Prelude.{◌||◌, if◌then◌else◌, nat_lt}
use Rattle.std.specs.List.{list_any, position_or_len}
use Rattle.std.specs.Cmp.Lexicographic.{pointwise, same_text, other_text}
use Rattle.std.proofs.lemmas.List.Recursion.{is_position_or_len}
use Rattle.indexmap.specs.IndexSet.{insert_key}
use Rattle.dx_schema.specs.Tables.{number_of_name}
use Rattle.dx_base.specs.Texts.{Text}
use Rattle.dx_schema.specs.Faults.{is_among}
use Rattle.dx_schema.proofs.Loops.{among_number}
use Rattle.dx_tgd_text.specs.Numbering.{with_name}

flip : (x y : Text) → pointwise nat_eq y x ≡ pointwise nat_eq x y
flip x y = go (pointwise nat_eq y x) (pointwise nat_eq x y) refl refl
  where
    go : (b c : Bool) → pointwise nat_eq y x ≡ b → pointwise nat_eq x y ≡ c → b ≡ c
    go true true d e = refl
    go true false d e = absurd (other_text x y (sym e) (sym (same_text y x (sym d))))
    go false true d e = absurd (other_text y x (sym d) (sym (same_text x y (sym e))))
    go false false d e = refl

pub among_is_any : (x : Text) (xs : List Text) → is_among x xs ≡ list_any (pointwise nat_eq x) xs
among_is_any x [] = refl
among_is_any x (y ∷ ys) = rw (flip x y, among_is_any x ys) refl

one : (n : ℕ) → suc n ≡ 1 + n
one n = omega arith

number_is_place : (x : Text) (xs : List Text) → number_of_name x xs ≡ position_or_len (pointwise nat_eq x) xs
number_is_place x xs = is_position_or_len (number_of_name x) (pointwise nat_eq x) refl (λ y ys. ap (λ b. cond b 0 (suc (number_of_name x ys))) (flip x y) ∙ ap (λ n. cond (pointwise nat_eq x y) 0 n) (one (number_of_name x ys))) xs

place_told : (k n len : ℕ) → Some n ≡ cond (nat_lt k len) (Some k) None → n ≡ k
place_told k n len e = go (nat_lt k len) e
  where
    go : (b : Bool) → Some n ≡ cond b (Some k) None → n ≡ k
    go true e = cc
    go false e = absurd cc

-- a name that is found
pub found_name : (x : Text) (xs : List Text) (n : ℕ) → Some n ≡ position (pointwise nat_eq x) xs → true ≡ list_any (pointwise nat_eq x) xs → (is_among x xs ≡ true) × (n ≡ number_of_name x xs) × (n < length xs)
found_name x xs n at there =
    let among : is_among x xs ≡ true = among_is_any x xs ∙ sym there in
    let number : n ≡ number_of_name x xs = place_told (position_or_len (pointwise nat_eq x) xs) n (length xs) at ∙ sym (number_is_place x xs) in
    (among, number, rw number (among_number x xs among))

-- a name that is not there is numbered after all
pub number_absent : (x : Text) (xs : List Text) → is_among x xs ≡ false → number_of_name x xs ≡ length xs
number_absent x [] h = refl
number_absent x (y ∷ ys) h = go (pointwise nat_eq y x) (number_absent x ys) h
  where
    go : (b : Bool) → (is_among x ys ≡ false → number_of_name x ys ≡ length ys) → (b || is_among x ys) ≡ false → cond b 0 (suc (number_of_name x ys)) ≡ suc (length ys)
    go true r k = absurd cc
    go false r k = ap suc (r k)

-- a name more
pub entered : (x : Text) (xs ys : List Text) → ys ≡ insert_key (pointwise nat_eq) xs x → ys ≡ with_name xs x
entered x xs ys e = e ∙ go (list_any (pointwise nat_eq x) xs) (is_among x xs) (sym (among_is_any x xs))
  where
    go : (b c : Bool) → b ≡ c → (if b then xs else xs ++ x ∷ []) ≡ cond c xs (xs ++ x ∷ [])
    go true true e = refl
    go true false e = absurd cc
    go false true e = absurd cc
    go false false e = refl

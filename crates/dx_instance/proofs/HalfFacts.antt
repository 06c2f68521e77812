-- The first sixteen bytes of a text as two numbers of eight bytes.
use Rattle.std.proofs.Common.{◌≡◌, ◌∙◌, ◌+◌, ◌*◌, ◌-◌, ◌^◌, ◌∷◌, ℕ, zero, suc, List, [], refl, ap, arith, drop, inl, inr}
use Rattle.std.specs.Prelude.{slice_index}
use Rattle.std.proofs.lemmas.Bool.{cases_lt}
use Rattle.std.proofs.lemmas.List.{get_or-drop}
use Rattle.std.proofs.Math.Nat.{pow-suc, pow-zero}
use Rattle.dx_instance.specs.Keys.{packed, AllSmall}

drop_none : (m : ℕ) (xs : List ℕ) → xs ≡ [] → drop m xs ≡ []
drop_none zero xs e = e
drop_none (suc m) [] e = refl
drop_none (suc m) (x ∷ xs) e = absurd (cc e)

-- the digits after the first m
split : (b m n k p : ℕ) (xs : List ℕ) → k ≡ m + n → packed b k p xs ≡ packed b n (packed b m p xs) (drop m xs)
split b zero n k p xs e = let s : k ≡ n = omega (arith, e) in rw s refl
split b (suc m) n k p [] e =
    let s : k ≡ suc (m + n) = omega (arith, e) in
    rw s (split b m n (m + n) (p * b) [] refl ∙ ap (λ (l : List ℕ). packed b n (packed b m (p * b) []) l) (drop_none m [] refl))
split b (suc m) n k p (x ∷ xs) e = let s : k ≡ suc (m + n) = omega (arith, e) in rw s (split b m n (m + n) (p * b + x) xs refl)

times_out : (b e p x : ℕ) → (p * b + x) * e ≡ p * (e * b) + x * e
times_out b e p x = grind arith

-- one digit more in front of n digits
front_more : (b n p x k z : ℕ) (xs : List ℕ) → k ≡ packed b n (p * b + x) xs → z ≡ packed b n (0 * b + x) xs
    → packed b n (p * b + x) xs ≡ (p * b + x) * b ^ n + packed b n 0 xs → packed b n (0 * b + x) xs ≡ (0 * b + x) * b ^ n + packed b n 0 xs → k ≡ p * b ^ suc n + z
front_more b n p x k z xs e g f h =
    let t = times_out b (b ^ n) p x in
    let u = times_out b (b ^ n) 0 x in
    let w : p * b ^ suc n ≡ p * (b ^ n * b) = ap (λ (q : ℕ). p * q) (pow-suc b n) in
    omega (arith, e, g, f, h, t, u, w)

-- what a number counts for in front of n digits
front : (b n p : ℕ) (xs : List ℕ) → packed b n p xs ≡ p * b ^ n + packed b n 0 xs
front b zero p xs = let one = pow-zero b in let s : p ≡ p * b ^ 0 + 0 = rw one (omega arith) in s
front b (suc n) p [] =
    let none : (q : ℕ) → packed b n q [] ≡ packed b n (q + 0) [] = λ q. let z : q ≡ q + 0 = omega arith in ap (λ (r : ℕ). packed b n r []) z in
    front_more b n p 0 (packed b (suc n) p []) (packed b (suc n) 0 []) [] (none (p * b)) (none (0 * b)) (front b n (p * b + 0) []) (front b n (0 * b + 0) [])
front b (suc n) p (x ∷ xs) = front_more b n p x (packed b (suc n) p (x ∷ xs)) (packed b (suc n) 0 (x ∷ xs)) xs refl refl (front b n (p * b + x) xs) (front b n (0 * b + x) xs)

-- sixteen bytes are eight and the next eight
pub halves : (text : List ℕ) → packed 256 16 0 text ≡ packed 256 8 0 text * 2 ^ 64 + packed 256 8 0 (drop 8 text)
halves text = split 256 8 8 16 0 text refl ∙ front 256 8 (packed 256 8 0 text) (drop 8 text)

pub small_halves : (text : List ℕ) → AllSmall 256 8 text → AllSmall 256 8 (drop 8 text) → AllSmall 256 16 text
small_halves text s t i h = elim (cases_lt i 8) [
  | inl l ↦ s i l
  | inr l ↦
      let e : 8 + (i - 8) ≡ i = omega (arith, l) in
      let read : slice_index (drop 8 text) (i - 8) ≡ slice_index text i = get_or-drop 8 text (i - 8) 0 ∙ ap (λ (j : ℕ). slice_index text j) e in
      rw (← read) (t (i - 8) (omega (arith, h, l)))
]

-- Sums over the numbers below a number.
use Rattle.std.proofs.Common.{◌≡◌, ℕ, zero, suc, ◌+◌, ◌<◌, ◌≤◌, List, [], ◌∷◌, ◌++◌, ◌⊎◌, inl, inr, refl, ◌∙◌, ap, arith}
use Rattle.std.specs.Prelude.{map, sum}
use Rattle.std.proofs.lemmas.List.{map_push}
use Rattle.std.proofs.lemmas.List.Sums.{sum_by_push}
use Rattle.std.proofs.lemmas.Bool.{cases_lt}
use Rattle.dx_model.specs.Covers.{below}

-- f 0 and so on, up to f of the number before n
abbrev pub total : (ℕ → ℕ) → ℕ → ℕ
total f n = sum (map f (below n))

sum_push : (xs : List ℕ) (x : ℕ) → sum (xs ++ x ∷ []) ≡ sum xs + x
sum_push xs x = sum_by_push (λ y. y) xs x

pub total_more : (f : ℕ → ℕ) (n : ℕ) → total f (suc n) ≡ total f n + f n
total_more f n = ap sum (map_push f (below n) n) ∙ sum_push (map f (below n)) (f n)

pub total_same : (f g : ℕ → ℕ) (n : ℕ) → ((k : ℕ) → k < n → f k ≡ g k) → total f n ≡ total g n
total_same f g zero h = refl
total_same f g (suc n) h =
    let r = total_same f g n (λ k l. h k (omega arith)) in
    let e = h n (omega arith) in
    let a = total_more f n in
    let b = total_more g n in
    omega (arith, r, e, a, b)

pub total_less : (f g : ℕ → ℕ) (n : ℕ) → ((k : ℕ) → k < n → f k ≤ g k) → total f n ≤ total g n
total_less f g zero h = omega arith
total_less f g (suc n) h =
    let r = total_less f g n (λ k l. h k (omega arith)) in
    let e = h n (omega arith) in
    let a = total_more f n in
    let b = total_more g n in
    omega (arith, r, e, a, b)

pub total_longer : (f : ℕ → ℕ) (m n : ℕ) → m ≤ n → total f m ≤ total f n
total_longer f m zero h = let e : m ≡ 0 = omega arith in rw e (omega arith)
total_longer f m (suc n) h = go (λ l. total_longer f m n l) (cases m n h)
  where
    cases : (m n : ℕ) → m ≤ suc n → (m ≤ n) ⊎ (m ≡ suc n)
    cases m n h = elim (cases_lt m (suc n)) [ inl l ↦ inl (omega arith) | inr g ↦ inr (omega arith) ]

    go : (m ≤ n → total f m ≤ total f n) → (m ≤ n) ⊎ (m ≡ suc n) → total f m ≤ total f (suc n)
    go q (inl l) = let r = q l in let a = total_more f n in omega (arith, r, a)
    go q (inr e) = rw e (omega arith)

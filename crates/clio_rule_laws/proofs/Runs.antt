-- Names that are numbered one after the other.
use Rattle.std.proofs.Common.{◌≡◌, ◌≢◌, ℕ, zero, suc, ◌+◌, ◌<◌, ◌≤◌, Bool, true, false, List, [], ◌∷◌, ◌++◌, map, inl, inr, cond, nat_eq, refl, sym, ap, ◌∙◌, arith}
use Rattle.std.specs.Prelude.{◌||◌}
use Rattle.std.proofs.lemmas.Bool.{cases_eq}
use Rattle.std.specs.Cmp.Lexicographic.{pointwise, same_text, other_text}
use Rattle.dx_base.specs.Members.{◌∈◌, here, there}
use Rattle.dx_model.specs.Fitting.{ByFirstAppearance}
use Rattle.dx_schema.specs.Tables.{number_of_name}
use Rattle.dx_base.specs.Texts.{Text}
use Rattle.dx_schema.specs.Faults.{is_among}
use Rattle.dx_tgd_text.specs.Numbering.{appeared}

-- ---- numbers by first appearance

pub numbered_up : (n : ℕ) (xs : List ℕ) (m : ℕ) → ByFirstAppearance n xs m → n ≤ m
numbered_up n [] m h = omega (arith, h)
numbered_up n (x ∷ xs) m (inl h) = numbered_up n xs m h.1
numbered_up n (x ∷ xs) m (inr h) = let k = numbered_up (suc n) xs m h.1 in omega (arith, k)

pub numbered_below : (n : ℕ) (xs : List ℕ) (m : ℕ) → ByFirstAppearance n xs m → (x : ℕ) → x ∈ xs → x < m
numbered_below n [] m h x member = elim member [ ]
numbered_below n (y ∷ ys) m (inl h) x (here e) = let k = numbered_up n ys m h.1 in let l = h.0 in omega (arith, k, l, e)
numbered_below n (y ∷ ys) m (inl h) x (there member) = numbered_below n ys m h.1 x member
numbered_below n (y ∷ ys) m (inr h) x (here e) = let k = numbered_up (suc n) ys m h.1 in let l = h.0 in omega (arith, k, l, e)
numbered_below n (y ∷ ys) m (inr h) x (there member) = numbered_below (suc n) ys m h.1 x member

-- ---- names in a row

-- so many names, of which the first has number s
abbrev pub run : (ℕ → Text) → ℕ → ℕ → List Text
run f s zero = []
run f s (suc k) = f s ∷ run f (suc s) k

pub run_more : (f : ℕ → Text) (s j k : ℕ) → run f s (j + k) ≡ run f s j ++ run f (s + j) k
run_more f s zero k =
    let all : 0 + k ≡ k = omega arith in
    let at : s ≡ s + 0 = omega arith in
    ap (run f s) all ∙ ap (λ (n : ℕ). run f n k) at
run_more f s (suc j) k =
    let all : suc j + k ≡ suc (j + k) = omega arith in
    let at : suc s + j ≡ s + suc j = omega arith in
    ap (run f s) all ∙ ap (λ (xs : List Text). f s ∷ xs) (run_more f (suc s) j k ∙ ap (λ (n : ℕ). run f (suc s) j ++ run f n k) at)

pub run_one : (f : ℕ → Text) (n : ℕ) → run f 0 n ++ f n ∷ [] ≡ run f 0 (suc n)
run_one f n =
    let all : suc n ≡ n + 1 = omega arith in
    let at : 0 + n ≡ n = omega arith in
    sym (ap (run f 0) all ∙ run_more f 0 n 1 ∙ ap (λ (m : ℕ). run f 0 n ++ f m ∷ []) at)

-- names with numbers below the bound differ
abbrev pub DifferBelow : ℕ → (ℕ → Text) → Type 0
DifferBelow bound f = (m n : ℕ) → m < bound → n < bound → f m ≡ f n → m ≡ n

-- ---- a name of the row

same_name : (x y : Text) → x ≡ y → pointwise nat_eq x y ≡ true
same_name x y e = go (pointwise nat_eq x y) refl
  where
    go : (b : Bool) → pointwise nat_eq x y ≡ b → b ≡ true
    go true h = refl
    go false h = absurd (other_text x y (sym h) e)

other_name : (x y : Text) → x ≢ y → pointwise nat_eq x y ≡ false
other_name x y n = go (pointwise nat_eq x y) refl
  where
    go : (b : Bool) → pointwise nat_eq x y ≡ b → b ≡ false
    go true h = absurd (n (same_text x y (sym h)))
    go false h = refl

or_right : (b : Bool) → (b || true) ≡ true
or_right true = refl
or_right false = refl

-- a name with a number in the row is there
pub among_run : (f : ℕ → Text) (s k x : ℕ) → s ≤ x → x < s + k → is_among (f x) (run f s k) ≡ true
among_run f s zero x low high = absurd (omega arith)
among_run f s (suc k) x low high =
    elim (cases_eq s x) [
      | inl e ↦ rw (same_name (f s) (f x) (ap f e)) refl
      | inr n ↦ ap (λ (b : Bool). pointwise nat_eq (f s) (f x) || b) (among_run f (suc s) k x (omega arith) (omega arith)) ∙ or_right (pointwise nat_eq (f s) (f x))
    ]

-- a name that none of the row is, is not there
pub absent_run : (f : ℕ → Text) (s k : ℕ) (y : Text) → ((n : ℕ) → n < s + k → f n ≢ y) → is_among y (run f s k) ≡ false
absent_run f s zero y other = refl
absent_run f s (suc k) y other = rw (other_name (f s) y (other s (omega arith))) (absent_run f (suc s) k y (λ n lt. other n (omega arith)))

-- its number is its place in the row
pub number_run : (f : ℕ → Text) (bound s k x : ℕ) → DifferBelow bound f → s + k ≤ bound → s ≤ x → x < s + k → s + number_of_name (f x) (run f s k) ≡ x
number_run f bound s zero x differ fits low high = absurd (omega arith)
number_run f bound s (suc k) x differ fits low high =
    elim (cases_eq s x) [
      | inl e ↦ rw (same_name (f s) (f x) (ap f e)) (omega arith)
      | inr n ↦
          let next = number_run f bound (suc s) k x differ (omega arith) (omega arith) (omega arith) in
          rw (other_name (f s) (f x) (λ e. n (differ s x (omega arith) (omega arith) e))) (omega (arith, next))
    ]

-- ---- names that appear

pub appeared_run : (f : ℕ → Text) (bound n : ℕ) (xs : List ℕ) (m : ℕ) → DifferBelow bound f → m ≤ bound → ByFirstAppearance n xs m → appeared (run f 0 n) (map f xs) ≡ run f 0 m
appeared_run f bound n [] m differ fits h = ap (run f 0) h
appeared_run f bound n (x ∷ xs) m differ fits (inl h) =
    let lt = h.0 in
    ap (λ (b : Bool). appeared (cond b (run f 0 n) (run f 0 n ++ f x ∷ [])) (map f xs)) (among_run f 0 n x (omega arith) (omega arith)) ∙ appeared_run f bound n xs m differ fits h.1
appeared_run f bound n (x ∷ xs) m differ fits (inr h) =
    let is : x ≡ n = h.0 in
    let up = numbered_up (suc n) xs m h.1 in
    let new : is_among (f x) (run f 0 n) ≡ false = absent_run f 0 n (f x) (λ j lt e. no_earlier j lt (differ j x (omega arith) (omega arith) e)) in
    ap (λ (b : Bool). appeared (cond b (run f 0 n) (run f 0 n ++ f x ∷ [])) (map f xs)) new ∙ ap (λ (names : List Text). appeared names (map f xs)) (ap (λ (y : ℕ). run f 0 n ++ f y ∷ []) is ∙ run_one f n) ∙ appeared_run f bound (suc n) xs m differ fits h.1
  where
    no_earlier : (j : ℕ) → j < 0 + n → j ≡ x → ⊥
    no_earlier j lt e = let is : x ≡ n = h.0 in omega arith

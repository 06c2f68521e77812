-- When two lists of numbers are found the same.
use Rattle.std.proofs.Common.{◌≡◌, ◌≤◌, ℕ, true, false, List, length, take, get_or, nat_eq, sym, ◌∙◌, ap, arith, inl, inr}
use Rattle.std.proofs.lemmas.Bool.{cases_Bool}
use Rattle.std.specs.Cmp.Lexicographic.{pointwise, bytes_decides}
use Rattle.std.proofs.lemmas.List.{take_all}

-- they are as long, and so many of their first numbers are the same as there are
pub found_same : (a b : List ℕ) (i : ℕ) → length a ≡ length b → length a ≤ i → take i a ≡ take i b → true ≡ pointwise nat_eq a b
found_same a b i e l t = sym ((bytes_decides a b).1 (sym (take_all i a (omega arith)) ∙ t ∙ take_all i b (omega (arith, e, l))))

-- they have different lengths
pub differ_long : (a b : List ℕ) → ¬ (length a ≡ length b) → false ≡ pointwise nat_eq a b
differ_long a b n = elim (cases_Bool (pointwise nat_eq a b)) [
  | inl t ↦ absurd (n (ap length ((bytes_decides a b).0 t)))
  | inr f ↦ sym f
]

-- they have different numbers in a place
pub differ_at : (a b : List ℕ) (i : ℕ) → ¬ (get_or a i 0 ≡ get_or b i 0) → false ≡ pointwise nat_eq a b
differ_at a b i n = elim (cases_Bool (pointwise nat_eq a b)) [
  | inl t ↦ absurd (n (ap (λ z. get_or z i 0) ((bytes_decides a b).0 t)))
  | inr f ↦ sym f
]

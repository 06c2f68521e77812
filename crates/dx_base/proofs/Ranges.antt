-- Ranges of numbers, and how numbers compare.
use Rattle.std.proofs.Common.{ℕ, zero, suc, ◌+◌, ◌<◌, ◌≤◌, inl, inr, arith, ◌≡◌, ◌∙◌, ◌++◌, ◌∷◌, List, [], ap, rules}
use Rattle.std.specs.List.{range_with_len}
use Rattle.std.proofs.lemmas.Bool.{cases_lt}
use Rattle.std.specs.Ordering.{nat_cmp}
use Rattle.std.specs.declared.cmp.Ordering.TheVariants.{Equal, Less}
use Rattle.dx_base.specs.Members.{◌∈◌, here, there}

pub from_range : (a n x : ℕ) → x ∈ range_with_len a n → (a ≤ x) × (x < a + n)
from_range a zero x m = elim m [ ]
from_range a (suc n) x (here e) = (omega arith, omega arith)
from_range a (suc n) x (there m) = let r = from_range (a + 1) n x m in (omega (arith, r.0), omega (arith, r.1))

pub to_range : (a n x : ℕ) → a ≤ x → x < a + n → x ∈ range_with_len a n
to_range a zero x h l = absurd (omega arith)
to_range a (suc n) x h l = elim (cases_lt a x) [
  | inl i ↦ there (to_range (a + 1) n x (omega arith) (omega arith))
  | inr g ↦ here (omega arith)
]

-- one number more at the end
pub range_more : (a n : ℕ) → range_with_len a (n + 1) ≡ range_with_len a n ++ (a + n) ∷ []
range_more a zero = let z : a ≡ a + 0 = omega arith in ap (λ (k : ℕ). k ∷ []) z
range_more a (suc n) =
    let e : suc n + 1 ≡ suc (n + 1) = omega arith in
    let s : a + 1 + n ≡ a + suc n = omega arith in
    ap (range_with_len a) e ∙ ap (λ (l : List ℕ). a ∷ l) (range_more (a + 1) n ∙ ap (λ (k : ℕ). range_with_len (a + 1) n ++ k ∷ []) s)

-- ---- numbers as their order compares them

pub nat_self : (x : ℕ) → nat_cmp x x ≡ Equal
nat_self x = search rules

pub nat_less : (x y : ℕ) → x < y → nat_cmp x y ≡ Less
nat_less x y h = search (rules, h)

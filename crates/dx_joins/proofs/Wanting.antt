-- Variables that are wanted, and names of derived variables.
use Rattle.std.proofs.Common.{◌≡◌, ◌<◌, ◌+◌, ◌++◌, ◌∷◌, ℕ, List, [], sym, subst, arith, length, inl, inr}
use Rattle.std.specs.List.{range_with_len}
use Rattle.std.proofs.lemmas.Bool.{cases_lt}
use Rattle.dx_base.specs.Members.{◌∈◌, ◌⊆◌, here, there, Each}
use Rattle.dx_base.proofs.Members.{in_left, in_right, from_append}
use Rattle.dx_base.proofs.Ranges.{to_range}
use Rattle.dx_model.specs.declared.rules.Derived.{Derived}
use Rattle.dx_joins.specs.Derivations.{IsVariableWanted}

only : (x y : ℕ) → y ∈ (x ∷ []) → y ≡ x
only x y (here e) = sym e
only x y (there m) = elim m [ ]

pub want_more : (P : ℕ → Type 0) (vs : List ℕ) (x : ℕ) → Each vs (λ y. y < x) → ((y : ℕ) → y < x → P y → y ∈ vs)
    → Each (vs ++ x ∷ []) (λ y. y < x + 1) × ((y : ℕ) → y < x + 1 → P y → y ∈ (vs ++ x ∷ []))
want_more P vs x below all = (
  (λ y m. elim (from_append vs m) [ inl l ↦ let b = below y l in omega (arith, b) | inr r ↦ let e = only x y r in omega (arith, e) ]),
  (λ y h p. elim (cases_lt y x) [ inl b ↦ in_left (x ∷ []) (all y b p) | inr b ↦ let e : x ≡ y = omega (arith, b, h) in in_right vs (here e) ]),
)

pub want_none : (P : ℕ → Type 0) (vs : List ℕ) (x : ℕ) → ¬ (P x) → Each vs (λ y. y < x) → ((y : ℕ) → y < x → P y → y ∈ vs)
    → Each vs (λ y. y < x + 1) × ((y : ℕ) → y < x + 1 → P y → y ∈ vs)
want_none P vs x n below all = (
  (λ y m. let b = below y m in omega (arith, b)),
  (λ y h p. elim (cases_lt y x) [ inl b ↦ all y b p | inr b ↦ let e : y ≡ x = omega (arith, b, h) in absurd (n (subst P e p)) ]),
)

-- the shown variables are among those that are wanted and the derived ones
pub shown_known : (derived : List Derived) (shown wanted : List ℕ) (first : ℕ) → ((x : ℕ) → x < first → IsVariableWanted derived shown x → x ∈ wanted) → Each shown (λ x. x < first + length derived)
    → shown ⊆ (wanted ++ range_with_len first (length derived))
shown_known derived shown wanted first all known x m = elim (cases_lt x first) [
  | inl b ↦ in_left (range_with_len first (length derived)) (all x b (inl m))
  | inr b ↦ in_right wanted (to_range first (length derived) x b (known x m))
]

pub args_known : (derived : List Derived) (shown wanted : List ℕ) (first : ℕ) → ((x : ℕ) → x < first → IsVariableWanted derived shown x → x ∈ wanted) → Each derived (λ (e : Derived). Each e.args (λ x. x < first))
    → Each derived (λ (e : Derived). e.args ⊆ wanted)
args_known derived shown wanted first all args e m x h = all x (args e m x h) (inr (e, m, h))

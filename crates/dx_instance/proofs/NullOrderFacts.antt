-- Values in order: constants come before nulls.
use Rattle.std.proofs.Common.{◌≡◌, ◌+◌, ◌<◌, ◌≤◌, ℕ, List, [], arith, inl, inr, refl, length}
use Rattle.std.proofs.lemmas.Bool.{cases_order}
use Rattle.std.specs.declared.cmp.Ordering.TheVariants.{Less}
use Rattle.dx_model.specs.declared.values.Value.{Value}
use Rattle.dx_model.specs.declared.values.Value.TheVariants.{Const, Null}
use Rattle.dx_model.specs.Values.{value_cmp}
use Rattle.dx_instance.specs.Numbers.{IsConstant, IsSomeNull, ValuesAscend, value_of}

below_constant : (v w : Value) → value_cmp v w ≡ Less → IsConstant w → IsConstant v
below_constant (Const t) w h c = (t, refl)
below_constant (Null n) (Const u) h c = absurd (cc)
below_constant (Null n) (Null m) h c = let e = c.1 in absurd (cc)

above_null : (v w : Value) → value_cmp v w ≡ Less → IsSomeNull v → IsSomeNull w
above_null v (Null n) h c = (n, refl)
above_null (Null n) (Const u) h c = absurd (cc)
above_null (Const t) (Const u) h c = let e = c.1 in absurd (cc)

-- values up to a constant are constants
pub constants_to : (xs : List Value) (m : ℕ) (v : Value) → v ≡ value_of xs m → IsConstant v → m < length xs
    → ValuesAscend xs → (n : ℕ) → n < m + 1 → IsConstant (value_of xs n)
constants_to xs m v e c h up n l = elim (cases_order n m) [
  | inl d ↦ rw (d, ← e) c
  | inr o ↦ elim o [
    | inl k ↦ below_constant (value_of xs n) (value_of xs m) (up n m (Const []) k h) (rw (← e) c)
    | inr k ↦ absurd (omega (arith, k, l))
  ]
]

-- values from a null on are nulls
pub nulls_from : (xs : List Value) (m : ℕ) (v : Value) → v ≡ value_of xs m → IsSomeNull v
    → ValuesAscend xs → (n : ℕ) → m ≤ n → n < length xs → IsSomeNull (value_of xs n)
nulls_from xs m v e c up n l h = elim (cases_order n m) [
  | inl d ↦ rw (d, ← e) c
  | inr o ↦ elim o [
    | inl k ↦ absurd (omega (arith, k, l))
    | inr k ↦ above_null (value_of xs m) (value_of xs n) (up m n (Const []) k h) (rw (← e) c)
  ]
]

-- The numbers of values among distinct ones, and the places of rows.
use Rattle.std.proofs.Common.{◌≡◌, ◌∙◌, ◌<◌, ℕ, zero, suc, cond, true, false, List, [], ◌∷◌, length, sym, subst, arith, inl, inr}
use Rattle.std.specs.Prelude.{Some, slice_get}
use Rattle.std.proofs.lemmas.Bool.{cases_Bool, true≢false}
use Rattle.dx_base.specs.Members.{◌∈◌, here, there}
use Rattle.dx_base.proofs.Members.{in_at}
use Rattle.dx_model.specs.declared.values.Value.{Value}
use Rattle.dx_model.specs.declared.values.Value.TheVariants.{Const}
use Rattle.dx_model.specs.Covers.{same_value}
use Rattle.dx_model.proofs.Before.{same_value-refl, same_value-true}
use Rattle.dx_instance.specs.Cells.{numbers_at}
use Rattle.dx_instance.specs.Numbers.{ValuesDiffer, value_of}
use Rattle.dx_instance.specs.Stored.{TableRows, table_at, widths}
use Rattle.dx_instance.proofs.ShownFacts.{number_same}

-- the place at which a value stands first
abbrev pub number_of : List Value → Value → ℕ
number_of [] v = zero
number_of (s ∷ S) v = cond (same_value s v) zero (suc (number_of S v))

-- that place is one of the list, and the value stands there
pub number_at : (S : List Value) (v : Value) → v ∈ S → (number_of S v < length S) × (value_of S (number_of S v) ≡ v)
number_at [] v m = elim m [ ]
number_at (s ∷ S) v m = elim (cases_Bool (same_value s v)) [
  | inl y ↦ rw y (omega arith, same_value-true s v y)
  | inr n ↦ let r = number_at S v (later m n) in rw n (omega (arith, r.0), r.1)
]
  where
    later : v ∈ (s ∷ S) → same_value s v ≡ false → v ∈ S
    later (here e) n = absurd (true≢false (sym (subst (λ (x : Value). same_value s x ≡ true) e (same_value-refl s)) ∙ n))
    later (there k) n = k

-- of distinct values, a place is that of the value there
pub number_back : (S : List Value) (n : ℕ) → ValuesDiffer S → n < length S → number_of S (value_of S n) ≡ n
number_back S n apart h =
    let r = number_at S (value_of S n) (in_at S n (Const []) h) in
    number_same S (number_of S (value_of S n)) n apart r.0 h r.1

-- a place at which a row stands
pub row_place : (rows : List (List ℕ)) (r : List ℕ) → r ∈ rows → (p : ℕ) × (p < length rows) × (numbers_at rows p ≡ r)
row_place [] r m = elim m [ ]
row_place (x ∷ rows) r (here e) = (zero, omega arith, e)
row_place (x ∷ rows) r (there m) = let w = row_place rows r m in (suc w.0, omega (arith, w.1), w.2)

-- a width that is asked for without a default is that of a table of the instance
pub wide_at : (I : List TableRows) (t w : ℕ) → slice_get (widths I) t ≡ Some w → (t < length I) × (w ≡ (table_at I t).width)
wide_at [] t w e = cc e
wide_at (x ∷ I) zero w e = (omega arith, cc e)
wide_at (x ∷ I) (suc t) w e = let r = wide_at I t w e in (omega (arith, r.0), r.1)

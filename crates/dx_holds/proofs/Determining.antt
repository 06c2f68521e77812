-- Rows that have the same values in columns, each by the first that has them.
use Rattle.std.proofs.Common.{◌≡◌, ◌∙◌, ℕ, ◌+◌, ◌<◌, ◌≤◌, List, inl, inr, refl, sym, subst, arith, length}
use Rattle.std.specs.Prelude.{None}
use Rattle.std.proofs.lemmas.Bool.{cases_lt}
use Rattle.dx_model.specs.Tables.{values_in}
use Rattle.dx_instance.specs.Stored.{TableRows, rows_of}
use Rattle.dx_instance.specs.Places.{IsFirstWith, row_at}
use Rattle.dx_holds.specs.Columns.{RowsAgree, IsFirstLike, RowsDetermine, RowsDiffer}

-- a row has its own values, so there is a first that has them
pub some_first : (I : List TableRows) (t : ℕ) (columns : List ℕ) (p : ℕ) → p < length (rows_of I t) → ¬ (IsFirstWith I t columns (values_in columns (row_at I t p)) 0 None)
some_first I t columns p h none = none p (omega arith) h refl

-- the first is not behind a row that has the values
pub not_behind : (I : List TableRows) (t : ℕ) (columns : List ℕ) (p q r : ℕ) → IsFirstLike I t columns p q → values_in columns (row_at I t r) ≡ values_in columns (row_at I t p) → q ≤ r
not_behind I t columns p q r f e = elim (cases_lt r q) [ inl l ↦ absurd (f.2 r (omega arith) l e) | inr l ↦ omega (arith, l) ]

-- ---- keys

-- there is one first
pub first_once : (I : List TableRows) (t : ℕ) (columns : List ℕ) (p q r : ℕ) → IsFirstLike I t columns p q → IsFirstLike I t columns p r → q ≡ r
first_once I t columns p q r f g = let a = not_behind I t columns p q r f g.3 in let b = not_behind I t columns p r q g f.3 in omega (arith, a, b)

-- rows that have the same values have the same first
pub first_of_same : (I : List TableRows) (t : ℕ) (columns : List ℕ) (p q f : ℕ) → values_in columns (row_at I t q) ≡ values_in columns (row_at I t p) → IsFirstLike I t columns q f → IsFirstLike I t columns p f
first_of_same I t columns p q f e h = (h.0, h.1, (λ r l u s. h.2 r l u (s ∙ sym e)), h.3 ∙ e)

-- if each row is the first that has its values, then all differ
pub all_differ : (I : List TableRows) (t : ℕ) (columns : List ℕ) → ((x : ℕ) → x < length (rows_of I t) → IsFirstLike I t columns x x) → RowsDiffer I t columns
all_differ I t columns firsts p q b r agree = (firsts q r).2 p (omega arith) b (sym agree)

-- if all differ, then each row is the first that has its values
pub each_first : (I : List TableRows) (t : ℕ) (columns : List ℕ) (x : ℕ) → x < length (rows_of I t) → RowsDiffer I t columns → IsFirstLike I t columns x x
each_first I t columns x h d = (omega arith, h, (λ p l b same. d p x b h (sym same)), refl)

-- ---- dependencies

-- the first that has the row's values on the left has its values on the right
abbrev pub AgreesWithFirst : List TableRows → ℕ → List ℕ → List ℕ → ℕ → Type 0
AgreesWithFirst I t left right x = (f : ℕ) × IsFirstLike I t left x f × RowsAgree I t f right t right x

-- it has others there
abbrev pub DiffersFromFirst : List TableRows → ℕ → List ℕ → List ℕ → ℕ → Type 0
DiffersFromFirst I t left right x = (f : ℕ) × IsFirstLike I t left x f × ¬ (RowsAgree I t f right t right x)

pub not_determine : (I : List TableRows) (t : ℕ) (left right : List ℕ) (n f : ℕ) → n < length (rows_of I t) → IsFirstLike I t left n f → RowsDetermine I t left right → RowsAgree I t f right t right n
not_determine I t left right n f h first all =
    let b = not_behind I t left n f n first refl in
    elim (cases_lt f n) [
      | inl l ↦ all f n l h (sym first.3)
      | inr l ↦ let e : f ≡ n = omega (arith, b, l) in subst (λ (x : ℕ). values_in right (row_at I t x) ≡ values_in right (row_at I t f)) e refl
    ]

pub all_determine : (I : List TableRows) (t : ℕ) (left right : List ℕ) → ((x : ℕ) → x < length (rows_of I t) → AgreesWithFirst I t left right x) → RowsDetermine I t left right
all_determine I t left right agree p q b r same =
    let a = agree q r in
    let d = agree p (omega (arith, b, r)) in
    let e : a.0 ≡ d.0 = first_once I t left p a.0 d.0 (first_of_same I t left p q a.0 same a.1) d.1 in
    let mine : values_in right (row_at I t p) ≡ values_in right (row_at I t a.0) = subst (λ (x : ℕ). values_in right (row_at I t p) ≡ values_in right (row_at I t x)) (sym e) d.2 in
    a.2 ∙ sym mine

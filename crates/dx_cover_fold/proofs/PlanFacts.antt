-- Plans of cells.
use Rattle.std.proofs.Common.{◌≡◌, ◌∙◌, ℕ, ◌+◌, ◌<◌, ◌≤◌, ◌⊎◌, List, [], length, get_or, drop, refl, sym, ap, subst, inl, inr, arith}
use Rattle.std.proofs.lemmas.List.{get_or-map, get_or_default, length-map}
use Rattle.dx_base.specs.Members.{◌∈◌}
use Rattle.dx_base.proofs.Members.{in_at}
use Rattle.dx_model.specs.declared.values.Value.{Value}
use Rattle.dx_model.specs.declared.values.Value.TheVariants.{Const, Null}
use Rattle.dx_model.specs.declared.rules.Cell.TheVariants.{Var, Ex, Lit}
use Rattle.dx_model.specs.Values.{Tuple}
use Rattle.dx_base.specs.Texts.{Text}
use Rattle.dx_model.specs.Rules.{text_of}
use Rattle.dx_instance.specs.Numbers.{value_of}
use Rattle.dx_joins.specs.Shown.{AllTexts, texts_of}
use Rattle.dx_instance.specs.Ranks.{text_of_value}
use Rattle.dx_joins.proofs.Translating.{text_back}
use Rattle.dx_cover_fold.specs.declared.number_at.NumberAt.TheVariants.{Column, Fixed}
use Rattle.dx_cover_fold.specs.Codes.{IsCode, IsHeld, IsPlanned}
use Rattle.dx_cover_fold.proofs.TextsOf.{text_here, text_nowhere, text_past}

-- in all tuples of this width the variable has what it has from a place on
pub record FoundFrom (variables : List ℕ) (width x i : ℕ) : Type 0 where
  pub same : (t : Tuple) → length t ≡ width → text_of variables t x ≡ text_of (drop i variables) (drop i t) x

pub found_first : (variables : List ℕ) (width x : ℕ) → FoundFrom variables width x 0
found_first variables width x = record { same = λ t e. refl }

pub found_past : (variables : List ℕ) (width x i y : ℕ) → i < length variables → i < width → y ≡ get_or variables i y → ¬ (x ≡ y) → FoundFrom variables width x i → FoundFrom variables width x (i + 1)
found_past variables width x i y l k a n f = record {
  same = λ t e.
      let at : i < length t = omega (arith, e, k) in
      f.same t e ∙ text_past variables t i x y (get_or t i []) l at a (get_or_default t i [] _ at) n;
}

pub plan_column : (S : List Value) (variables : List ℕ) (width x i y : ℕ) → i < length variables → i < width → y ≡ get_or variables i y → x ≡ y → FoundFrom variables width x i → IsPlanned S variables width (Var x) (Column i)
plan_column S variables width x i y l k a q f = record { column = k; code = code }
  where
    code : (rule place : ℕ) (row : List ℕ) → length row ≡ width → AllTexts S row → IsCode S (Const (text_of variables (texts_of S row) x)) (get_or row i 0)
    code rule place row e t =
        let long : length (texts_of S row) ≡ width = length-map row (λ n. text_of_value (value_of S n)) ∙ e in
        let at : i < length (texts_of S row) = omega (arith, long, k) in
        let there : i < length row = omega (arith, e, k) in
        let n : get_or row i 0 ∈ row = in_at row i 0 there in
        let is : text_of variables (texts_of S row) x ≡ text_of_value (value_of S (get_or row i 0)) =
        f.same (texts_of S row) long ∙ text_here variables (texts_of S row) i x y (get_or (texts_of S row) i []) l at a (get_or_default (texts_of S row) i [] _ at) q
        ∙ get_or-map (λ n. text_of_value (value_of S n)) row i 0 [] there in
        let h = t (get_or row i 0) n in
        inl (record { within = h.0; value = sym (ap Const is ∙ text_back (value_of S (get_or row i 0)) h.1) })

pub plan_nothing : (S : List Value) (variables : List ℕ) (width x i n : ℕ) → (length variables ≤ i) ⊎ (width ≤ i) → FoundFrom variables width x i → IsCode S (Const []) n → IsPlanned S variables width (Var x) (Fixed n)
plan_nothing S variables width x i n past f c = record { column = tt; code = code }
  where
    empty : (t : Tuple) → length t ≡ width → text_of variables t x ≡ []
    empty t e =
        let w = text_nowhere variables t i x in
        f.same t e ∙ elim past [ inl l ↦ w.0 l | inr r ↦ w.1 (omega (arith, e, r)) ]

    code : (rule place : ℕ) (row : List ℕ) → length row ≡ width → AllTexts S row → IsCode S (Const (text_of variables (texts_of S row) x)) n
    code rule place row e t =
        let long : length (texts_of S row) ≡ width = length-map row (λ n. text_of_value (value_of S n)) ∙ e in
        subst (λ (v : Value). IsCode S v n) (ap Const (sym (empty (texts_of S row) long))) c

pub plan_literal : (S : List Value) (variables : List ℕ) (width n : ℕ) (t : Text) → IsCode S (Const t) n → IsPlanned S variables width (Lit t) (Fixed n)
plan_literal S variables width n t c = record { column = tt; code = λ rule place row e h. c }

pub plan_outside : (S : List Value) (variables : List ℕ) (width n v : ℕ) → n ≡ length S + 1 → IsPlanned S variables width (Ex v) (Fixed n)
plan_outside S variables width n v is = record { column = tt; code = λ rule place row e h. inr (inr (record { number = is; none = none rule place })) }
  where
    none : (rule place : ℕ) → ¬ (IsHeld S (Null (record { rule = rule; var = v; row = place })))
    none rule place (inl h) = absurd (cc (h.1))
    none rule place (inr e) = absurd (cc e)

-- The numbers by which values are compared: two are one if their values are, of which one is a text that a row can have.
use Rattle.std.proofs.Common.{◌≡◌, ◌∙◌, ℕ, ◌+◌, ◌<◌, true, List, [], ◌∷◌, length, refl, sym, ap, subst, inl, inr, arith, nat_eq, eqb}
use Rattle.std.specs.Prelude.{◌↔◌, map}
use Rattle.std.specs.List.{AllZip}
use Rattle.std.specs.Cmp.Lexicographic.{pointwise, bytes_decides}
use Rattle.std.specs.BTreeMap.{is_at}
use Rattle.std.proofs.lemmas.Bool.{cases_Bool}
use Rattle.dx_base.specs.Members.{◌∈◌, here, there, Each}
use Rattle.dx_base.proofs.Members.{in_at}
use Rattle.dx_base.proofs.Tests.{same_test}
use Rattle.dx_model.specs.declared.values.Value.{Value}
use Rattle.dx_model.specs.declared.values.Value.TheVariants.{Const, Null}
use Rattle.dx_model.specs.declared.rules.Cell.{Cell}
use Rattle.dx_model.specs.Values.{row_cmp}
use Rattle.dx_model.specs.Rules.{cell_value, text_of}
use Rattle.dx_instance.specs.Numbers.{ValuesDiffer, value_of}
use Rattle.dx_instance.proofs.ShownFacts.{number_same}
use Rattle.dx_joins.specs.Shown.{AllTexts, is_text, texts_of}
use Rattle.dx_instance.specs.Ranks.{text_of_value}
use Rattle.dx_joins.proofs.Translating.{text_back}
use Rattle.dx_cover_fold.specs.declared.number_at.NumberAt.{NumberAt}
use Rattle.dx_cover_fold.specs.Codes.{RowHasColumn, IsCode, IsHeld, IsPlanned, IsSymbol, numbers_by}
use Rattle.dx_cover_fold.proofs.Finding.{row_exact, row_itself}

-- ---- one value

-- a symbol is among the symbols
symbol_in : (S : List Value) (v : Value) (n : ℕ) → IsSymbol S v n → v ∈ S
symbol_in S v n h = subst (λ (x : Value). x ∈ S) h.value (in_at S n (Const []) h.within)

same_symbols : (S : List Value) (v w : Value) (a b : ℕ) → ValuesDiffer S → IsSymbol S v a → IsSymbol S w b → (a ≡ b) ↔ (v ≡ w)
same_symbols S v w a b p h k = (
  (λ e. sym h.value ∙ ap (value_of S) e ∙ k.value),
  (λ e. number_same S a b p h.within k.within (h.value ∙ e ∙ sym k.value)),
)

pub code_exact : (S : List Value) (v w : Value) (a b : ℕ) → ValuesDiffer S → IsHeld S v → IsCode S v a → IsCode S w b → (a ≡ b) ↔ (v ≡ w)
code_exact S v w a b p held (inl h) (inl k) = same_symbols S v w a b p h k
code_exact S v w a b p held (inl h) (inr (inl k)) = (
  (λ e. absurd (omega (arith, e, h.within, k.number))),
  (λ e. absurd (k.absent (subst (λ (x : Value). x ∈ S) e (symbol_in S v a h)))),
)
code_exact S v w a b p held (inl h) (inr (inr k)) = (
  (λ e. absurd (omega (arith, e, h.within, k.number))),
  (λ e. absurd (k.none (subst (IsHeld S) e held))),
)
code_exact S v w a b p held (inr (inl h)) (inl k) = (
  (λ e. absurd (omega (arith, e, k.within, h.number))),
  (λ e. absurd (h.absent (subst (λ (x : Value). x ∈ S) (sym e) (symbol_in S w b k)))),
)
code_exact S v w a b p held (inr (inl h)) (inr (inl k)) = ((λ e. h.empty ∙ sym k.empty), (λ e. h.number ∙ sym k.number))
code_exact S v w a b p held (inr (inl h)) (inr (inr k)) = (
  (λ e. absurd (omega (arith, e, h.number, k.number))),
  (λ e. absurd (k.none (subst (IsHeld S) e held))),
)
code_exact S v w a b p held (inr (inr h)) k = absurd (h.none held)

-- ---- which number a value has

pub code_of_symbol : (S : List Value) (v : Value) (n : ℕ) → n < length S → value_of S n ≡ v → IsCode S v n
code_of_symbol S v n h e = inl (record { within = h; value = e })

pub code_of_no_text : (S : List Value) (v : Value) (n : ℕ) → ¬ (v ∈ S) → v ≡ Const [] → n ≡ length S → IsCode S v n
code_of_no_text S v n a e q = inr (inl (record { number = q; empty = e; absent = a }))

pub code_of_outside : (S : List Value) (v : Value) (n : ℕ) → ¬ (v ∈ S) → ¬ (v ≡ Const []) → n ≡ length S + 1 → IsCode S v n
code_of_outside S v n a e q = inr (inr (record { number = q; none = none }))
  where
    none : ¬ (IsHeld S v)
    none (inl h) = a h.0
    none (inr d) = e d

-- ---- rows of values

heads : (v w : Value) (vs ws : List Value) → ◌≡◌ {A = List Value} (v ∷ vs) (w ∷ ws) → v ≡ w
heads v w vs ws e = cc e

tails : (v w : Value) (vs ws : List Value) → ◌≡◌ {A = List Value} (v ∷ vs) (w ∷ ws) → vs ≡ ws
tails v w vs ws e = cc e

first_number : (a b : ℕ) (ms ns : List ℕ) → ◌≡◌ {A = List ℕ} (a ∷ ms) (b ∷ ns) → a ≡ b
first_number a b ms ns e = cc e

rest_numbers : (a b : ℕ) (ms ns : List ℕ) → ◌≡◌ {A = List ℕ} (a ∷ ms) (b ∷ ns) → ms ≡ ns
rest_numbers a b ms ns e = cc e

codes_same : (S : List Value) (vs ws : List Value) (ms ns : List ℕ) → ValuesDiffer S → Each vs (IsHeld S) → AllZip (IsCode S) vs ms → AllZip (IsCode S) ws ns → ms ≡ ns → vs ≡ ws
codes_same S [] [] [] [] p held h k e = refl
codes_same S (v ∷ vs) [] (a ∷ ms) [] p held h k e = absurd (cc e)
codes_same S [] (w ∷ ws) [] (b ∷ ns) p held h k e = absurd (cc e)
codes_same S (v ∷ vs) (w ∷ ws) (a ∷ ms) (b ∷ ns) p held h k e =
    let first = (code_exact S v w a b p (held v (here refl)) h.0 k.0).0 (first_number a b ms ns e) in
    let rest = codes_same S vs ws ms ns p (λ x m. held x (there m)) h.1 k.1 (rest_numbers a b ms ns e) in
    cc (first, rest)
codes_same S [] ws (a ∷ ms) ns p held h k e = absurd h
codes_same S (v ∷ vs) ws [] ns p held h k e = absurd h
codes_same S vs [] ms (b ∷ ns) p held h k e = absurd k
codes_same S vs (w ∷ ws) ms [] p held h k e = absurd k

values_same : (S : List Value) (vs ws : List Value) (ms ns : List ℕ) → ValuesDiffer S → Each vs (IsHeld S) → AllZip (IsCode S) vs ms → AllZip (IsCode S) ws ns → vs ≡ ws → ms ≡ ns
values_same S [] [] [] [] p held h k e = refl
values_same S (v ∷ vs) [] (a ∷ ms) [] p held h k e = absurd (cc e)
values_same S [] (w ∷ ws) [] (b ∷ ns) p held h k e = absurd (cc e)
values_same S (v ∷ vs) (w ∷ ws) (a ∷ ms) (b ∷ ns) p held h k e =
    let first = (code_exact S v w a b p (held v (here refl)) h.0 k.0).1 (heads v w vs ws e) in
    let rest = values_same S vs ws ms ns p (λ x m. held x (there m)) h.1 k.1 (tails v w vs ws e) in
    cc (first, rest)
values_same S [] ws (a ∷ ms) ns p held h k e = absurd h
values_same S (v ∷ vs) ws [] ns p held h k e = absurd h
values_same S vs [] ms (b ∷ ns) p held h k e = absurd k
values_same S vs (w ∷ ws) ms [] p held h k e = absurd k

-- rows compare ms equal exactly if their numbers are the same
pub rows_alike : (S : List Value) (vs ws : List Value) (ms ns : List ℕ) → ValuesDiffer S → Each vs (IsHeld S) → AllZip (IsCode S) vs ms → AllZip (IsCode S) ws ns → pointwise nat_eq ms ns ≡ is_at (row_cmp vs) ws
rows_alike S vs ws ms ns p held h k = same_test (pointwise nat_eq ms ns) (is_at (row_cmp vs) ws) there_is back
  where
    there_is : pointwise nat_eq ms ns ≡ true → is_at (row_cmp vs) ws ≡ true
    there_is t =
        let e : vs ≡ ws = codes_same S vs ws ms ns p held h k ((bytes_decides ms ns).0 t) in
        subst (λ (r : List Value). is_at (row_cmp vs) r ≡ true) e (row_itself vs)

    back : is_at (row_cmp vs) ws ≡ true → pointwise nat_eq ms ns ≡ true
    back t = (bytes_decides ms ns).1 (values_same S vs ws ms ns p held h k (row_exact vs ws t))

-- ---- what cells say in a row

pub codes_said : (S : List Value) (variables : List ℕ) (width rule place : ℕ) (row : List ℕ) (cells : List Cell) (plan : List NumberAt) → length row ≡ width → AllTexts S row
    → AllZip (IsPlanned S variables width) cells plan
    → AllZip (IsCode S) (map (cell_value (text_of variables (texts_of S row)) (λ v. Null (record { rule = rule; var = v; row = place }))) cells) (numbers_by plan row)
codes_said S variables width rule place row [] [] e t h = tt
codes_said S variables width rule place row [] (p ∷ plan) e t h = absurd h
codes_said S variables width rule place row (c ∷ cells) [] e t h = absurd h
codes_said S variables width rule place row (c ∷ cells) (p ∷ plan) e t h = (h.0.code rule place row e t, codes_said S variables width rule place row cells plan e t h.1)

pub plan_columns : (S : List Value) (variables : List ℕ) (width : ℕ) (cells : List Cell) (plan : List NumberAt) → AllZip (IsPlanned S variables width) cells plan → Each plan (RowHasColumn width)
plan_columns S variables width [] [] h p m = elim m [ ]
plan_columns S variables width [] (q ∷ plan) h p m = absurd h
plan_columns S variables width (c ∷ cells) [] h p m = absurd h
plan_columns S variables width (c ∷ cells) (q ∷ plan) h p (here e) = subst (RowHasColumn width) e h.0.column
plan_columns S variables width (c ∷ cells) (q ∷ plan) h p (there m) = plan_columns S variables width cells plan h.1 p m

-- a text of a variable is one of the row, or empty
text_held : (S : List Value) (variables row : List ℕ) (x : ℕ) → AllTexts S row → IsHeld S (Const (text_of variables (texts_of S row) x))
text_held S [] row x t = inr refl
text_held S (y ∷ ys) [] x t = inr refl
text_held S (y ∷ ys) (n ∷ row) x t = elim (cases_Bool (eqb x y)) [
  | inl e ↦ rw e (inl (symbol_text n (t n (here refl))))
  | inr f ↦ rw f (text_held S ys row x (λ m k. t m (there k)))
]
  where
    symbol_text : (n : ℕ) → (n < length S) × (is_text (value_of S n) ≡ true) → (Const (text_of_value (value_of S n)) ∈ S) × (is_text (Const (text_of_value (value_of S n))) ≡ true)
    symbol_text n h = (subst (λ (v : Value). v ∈ S) (sym (text_back (value_of S n) h.1)) (in_at S n (Const []) h.0), refl)

pub texts_held : (S : List Value) (variables row xs : List ℕ) (f : ℕ → Value) → AllTexts S row → ((x : ℕ) → f x ≡ Const (text_of variables (texts_of S row) x)) → Each (map f xs) (IsHeld S)
texts_held S variables row [] f t e v m = elim m [ ]
texts_held S variables row (x ∷ xs) f t e v (here d) = subst (IsHeld S) (sym (e x) ∙ d) (text_held S variables row x t)
texts_held S variables row (x ∷ xs) f t e v (there m) = texts_held S variables row xs f t e v m

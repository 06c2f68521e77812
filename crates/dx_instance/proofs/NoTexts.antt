-- The texts that no value has.
use Rattle.std.proofs.Common.{◌≡◌, ◌∙◌, ◌∷◌, ℕ, List, [], true, false, refl, sym, ap, subst, inl, inr}
use Rattle.std.specs.Fmt.{decimal}
use Rattle.std.proofs.lemmas.Bool.{cases_Bool, eqb-true, false≢true}
use Rattle.dx_model.specs.declared.values.NullId.{NullId}
use Rattle.dx_model.specs.declared.values.Value.{Value}
use Rattle.dx_model.specs.declared.values.Value.TheVariants.{Const, Null}
use Rattle.dx_instance.specs.ValueText.{ThreeNumerals, IsNoValueText, NullFits, ValueFits, const_text, null_text, value_text_of, question_mark, starts_with_question_mark}
use Rattle.dx_instance.specs.Laws.{NoValueTexts}
use Rattle.dx_instance.proofs.TextFacts.{tail-is}

marked : (text : List ℕ) → starts_with_question_mark text ≡ true → (rest : List ℕ) × (text ≡ question_mark ∷ rest)
marked [] e = absurd (cc)
marked (b ∷ bs) e = (bs, ap (λ (x : ℕ). x ∷ bs) (eqb-true b question_mark e))

pub plain_text : (t : List ℕ) → starts_with_question_mark t ≡ false → const_text t ≡ t
plain_text t e = rw e refl

pub marked_text : (t : List ℕ) → starts_with_question_mark t ≡ true → const_text t ≡ question_mark ∷ t
marked_text t e = rw e refl

-- three numerals after `?` are the text of a null
null_said : (rest : List ℕ) → ThreeNumerals rest → (n : NullId) × NullFits n × (null_text n ≡ question_mark ∷ rest)
null_said rest t =
    let n : NullId = record { rule = t.is_first.0; var = t.is_second.0; row = t.is_third.0 } in
    let fits : NullFits n = record { rule = t.is_first.1; var = t.is_second.1; row = t.is_third.1 } in
    let a = t.is_first.2 in
    let b = t.is_second.2 in
    let c = t.is_third.2 in
    let d = sym t.are in
    (n, fits, rw (a, b, c, d) refl)

no_text_from : (text : List ℕ) → ((v : Value) → ValueFits v → ¬ (value_text_of v ≡ text)) → IsNoValueText text
no_text_from text h =
    let starts : starts_with_question_mark text ≡ true = elim (cases_Bool (starts_with_question_mark text)) [
      | inl y ↦ y
      | inr n ↦ absurd (h (Const text) tt (plain_text text n))
    ] in
    let m = marked text starts in
    record {
      rest = m.0;
      marked = m.1;
      once = λ e. h (Const m.0) tt (marked_text m.0 e ∙ sym m.1);
      no_null = λ t. let s = null_said m.0 t in h (Null s.0) s.1 (s.2 ∙ sym m.1);
    }

no_text_to : (text : List ℕ) → IsNoValueText text → (v : Value) → ValueFits v → ¬ (value_text_of v ≡ text)
no_text_to text w (Const t) f e = elim (cases_Bool (starts_with_question_mark t)) [
  | inl y ↦ w.once (subst (λ r. starts_with_question_mark r ≡ true) (tail-is question_mark question_mark t w.rest (sym (marked_text t y) ∙ (e ∙ w.marked))) y)
  | inr n ↦ let q : t ≡ question_mark ∷ w.rest = sym (plain_text t n) ∙ (e ∙ w.marked) in false≢true (sym n ∙ ap starts_with_question_mark q)
]
no_text_to text w (Null m) f e = w.no_null (record {
  first = decimal m.rule;
  second = decimal m.var;
  third = decimal m.row;
  is_first = (m.rule, f.rule, refl);
  is_second = (m.var, f.var, refl);
  is_third = (m.row, f.row, refl);
  are = sym (tail-is question_mark question_mark _ _ (e ∙ w.marked));
})

pub no_value_texts : NoValueTexts
no_value_texts text = (no_text_from text, no_text_to text)

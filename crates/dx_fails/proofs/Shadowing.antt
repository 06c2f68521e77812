-- What rows have in some columns, each once.
use Rattle.std.proofs.Common.{◌≡◌, ◌∙◌, ℕ, ◌+◌, ◌<◌, ◌≤◌, List, [], ◌∷◌, ◌++◌, inl, inr, refl, sym, ap, subst, arith, length, Bool, true, false}
use Rattle.std.specs.Prelude.{MatchBool, ◌⊎◌}
use Rattle.std.proofs.lemmas.Bool.{cases_lt}
use Rattle.std.proofs.lemmas.List.{length-append}
use Rattle.dx_base.specs.Members.{◌∈◌, here, there}
use Rattle.dx_base.proofs.Members.{from_append, in_left, in_right}
use Rattle.dx_model.specs.declared.values.Value.{Value}
use Rattle.dx_model.specs.Tables.{values_in}
use Rattle.dx_instance.specs.Stored.{AddsRow, TableRows, rows_of, widths, without_rows}
use Rattle.dx_instance.specs.Places.{row_at}
use Rattle.dx_fails.specs.Shown.{AreShadows}

-- what the row at a place has in some columns
abbrev pub shade : List TableRows → ℕ → List ℕ → ℕ → List Value
shade I t columns p = values_in columns (row_at I t p)

-- ---- the rows that were seen

-- S has one table, with exactly what the first n rows of table t have in these columns
pub record AreSeen (I : List TableRows) (t : ℕ) (columns : List ℕ) (n : ℕ) (S : List TableRows) : Type 0 where
  pub widths_are : widths S ≡ length columns ∷ []
  pub few : length (rows_of S 0) ≤ n
  pub kept : (p : ℕ) → p < n → shade I t columns p ∈ rows_of S 0
  pub only : (row : List Value) → row ∈ rows_of S 0 → (p : ℕ) × (p < n) × (shade I t columns p ≡ row)

pub none_seen : (I : List TableRows) (t : ℕ) (columns : List ℕ) (S : List TableRows) → S ≡ without_rows (length columns ∷ []) → AreSeen I t columns 0 S
none_seen I t columns S e = rw e (record {
  widths_are = refl;
  few = omega arith;
  kept = λ p h. absurd (omega (arith, h));
  only = λ row m. elim m [ ];
})

-- one row more, which is new
pub seen_new : (I : List TableRows) (t : ℕ) (columns : List ℕ) (n : ℕ) (S T : List TableRows) (row : List Value) → row ≡ shade I t columns n
    → AddsRow S T 0 row → AreSeen I t columns n S → AreSeen I t columns (n + 1) T
seen_new I t columns n S T row e a s = record {
  widths_are = a.widths_stay ∙ s.widths_are;
  few = let l = ap length a.here ∙ length-append (rows_of S 0) (row ∷ []) in omega (arith, l, s.few);
  kept = λ p h. subst (λ (rs : List (List Value)). shade I t columns p ∈ rs) (sym a.here) (there_too p h);
  only = λ r m. back r (from_append (rows_of S 0) (subst (λ (rs : List (List Value)). r ∈ rs) a.here m));
}
  where
    there_too : (p : ℕ) → p < n + 1 → shade I t columns p ∈ (rows_of S 0 ++ row ∷ [])
    there_too p h = elim (cases_lt p n) [
      | inl l ↦ in_left (row ∷ []) (s.kept p l)
      | inr l ↦ let d : n ≡ p = omega (arith, h, l) in in_right (rows_of S 0) (here (e ∙ ap (shade I t columns) d))
    ]

    last : (r : List Value) → r ∈ (row ∷ []) → (p : ℕ) × (p < n + 1) × (shade I t columns p ≡ r)
    last r (here d) = (n, omega arith, sym e ∙ d)
    last r (there m) = elim m [ ]

    back : (r : List Value) → (r ∈ rows_of S 0) ⊎ (r ∈ (row ∷ [])) → (p : ℕ) × (p < n + 1) × (shade I t columns p ≡ r)
    back r (inl m) = let w = s.only r m in let b = w.1 in (w.0, omega (arith, b), w.2)
    back r (inr m) = last r m

-- one row more, which was there
pub seen_again : (I : List TableRows) (t : ℕ) (columns : List ℕ) (n : ℕ) (S : List TableRows) (row : List Value) → row ≡ shade I t columns n
    → row ∈ rows_of S 0 → AreSeen I t columns n S → AreSeen I t columns (n + 1) S
seen_again I t columns n S row e m s = record {
  widths_are = s.widths_are;
  few = let f = s.few in omega (arith, f);
  kept = λ p h. elim (cases_lt p n) [
    | inl l ↦ s.kept p l
    | inr l ↦ let d : n ≡ p = omega (arith, h, l) in subst (λ (r : List Value). r ∈ rows_of S 0) (e ∙ ap (shade I t columns) d) m
  ];
  only = λ r k. let w = s.only r k in let b = w.1 in (w.0, omega (arith, b), w.2);
}

-- one row more, new or not
pub seen_more : (b : Bool) (I : List TableRows) (t : ℕ) (columns : List ℕ) (n : ℕ) (S T : List TableRows) (row : List Value)
    → row ≡ shade I t columns n → MatchBool b (¬ (row ∈ rows_of S 0)) (row ∈ rows_of S 0) → MatchBool b (AddsRow S T 0 row) (T ≡ S)
    → AreSeen I t columns n S → AreSeen I t columns (n + 1) T
seen_more true I t columns n S T row e new a s = seen_new I t columns n S T row e a s
seen_more false I t columns n S T row e m same s = rw same (seen_again I t columns n S row e m s)

pub all_seen : (I : List TableRows) (t : ℕ) (columns : List ℕ) (n : ℕ) (S : List TableRows) → n ≡ length (rows_of I t) → AreSeen I t columns n S
    → AreShadows I t columns S
all_seen I t columns n S e s = record {
  widths_are = s.widths_are;
  kept = λ p h. s.kept p (subst (λ (x : ℕ). p < x) (sym e) h);
  only = λ row m. let w = s.only row m in (w.0, subst (λ (x : ℕ). w.0 < x) e w.1, w.2);
}

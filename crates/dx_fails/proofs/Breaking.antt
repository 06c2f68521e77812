-- Determinations of one table, by the first rows that have what others have on the left.
use Rattle.std.proofs.Common.{◌≡◌, ◌∙◌, ◌+◌, ℕ, ◌<◌, ◌≤◌, List, inl, inr, refl, sym, ap, subst, arith, length, map, get_or}
use Rattle.std.proofs.lemmas.Bool.{cases_lt}
use Rattle.std.proofs.lemmas.List.{get_or-map, get_or_default, length-map}
use Rattle.dx_base.specs.Members.{◌∈◌}
use Rattle.dx_base.proofs.Members.{in_at}
use Rattle.dx_model.specs.Tables.{Determination, Table, table_of, values_in, determination_at}
use Rattle.dx_instance.specs.Stored.{TableRows, facts, rows_of}
use Rattle.dx_instance.specs.Places.{AreFirsts, row_at, value_at}
use Rattle.dx_holds.specs.Columns.{IsFirstLike, RowsAgree, RowsDetermine}
use Rattle.dx_holds.proofs.Determining.{not_behind}
use Rattle.dx_fails.specs.declared.broken.Apart.{Apart}
use Rattle.dx_fails.specs.declared.determining.Determines.{Determines}
use Rattle.dx_fails.specs.Firsts.{DeterminationHolds}
use Rattle.dx_fails.specs.Shown.{AllIn, IsFirstApart, IsViolation, IsBrokenIn, as_determination}
use Rattle.dx_fails.proofs.Finding.{determination_holds, fact_there, no_determination}

-- ---- one determination

-- the first n rows have the same on the right if they have the same on the left
abbrev pub DetermineTo : List TableRows → ℕ → List ℕ → List ℕ → ℕ → Type 0
DetermineTo I t left right n = (p q : ℕ) → p < q → q < n → RowsAgree I t p left t left q → RowsAgree I t p right t right q

pub determine_more : (I : List TableRows) (t : ℕ) (left right : List ℕ) (n f : ℕ) → IsFirstLike I t left n f → RowsAgree I t f right t right n → DetermineTo I t left right n → DetermineTo I t left right (n + 1)
determine_more I t left right n f first agree old p q h k same = elim (cases_lt q n) [
  | inl l ↦ old p q h l same
  | inr l ↦
      let d : n ≡ q = omega (arith, h, k, l) in
      let to_n : values_in left (row_at I t n) ≡ values_in left (row_at I t p) = subst (λ (x : ℕ). values_in left (row_at I t x) ≡ values_in left (row_at I t p)) (sym d) same in
      let least : f ≤ p = not_behind I t left n f p first (sym to_n) in
      let one : values_in right (row_at I t p) ≡ values_in right (row_at I t f) = elim (cases_lt f p) [
        | inl b ↦ old f p b (omega (arith, h, d)) (sym to_n ∙ sym first.3)
        | inr b ↦ let e : f ≡ p = omega (arith, b, least) in subst (λ (x : ℕ). values_in right (row_at I t x) ≡ values_in right (row_at I t f)) e refl
      ] in
      subst (λ (x : ℕ). values_in right (row_at I t x) ≡ values_in right (row_at I t p)) d (agree ∙ sym one)
]

-- the first rows are all of them
pub all_determine : (I : List TableRows) (t : ℕ) (left right : List ℕ) (n : ℕ) → length (rows_of I t) ≤ n → DetermineTo I t left right n → RowsDetermine I t left right
all_determine I t left right n h old p q b r = old p q b (omega (arith, h, r))

-- what is listed for a place is the first that has what it has
pub first_there : (I : List TableRows) (t : ℕ) (left places : List ℕ) (p f : ℕ) → AreFirsts I t left places → p < length (rows_of I t) → f ≡ get_or places p f
    → IsFirstLike I t left p f
first_there I t left places p f are h e =
    let many = are.many in
    let same : get_or places p 0 ≡ f = sym (e ∙ get_or_default places p f 0 (omega (arith, h, many))) in
    subst (IsFirstLike I t left p) same (are.each p h)

-- a row that differs from the first that has what it has on the left
pub are_apart : (I : List TableRows) (t : ℕ) (left right : List ℕ) (f n c : ℕ) → n < length (rows_of I t) → IsFirstLike I t left n f
    → IsFirstApart I t right f n c → DetermineTo I t left right n → IsViolation I t left right (record { left = f; right = n; column = c })
are_apart I t left right f n c h first apart determine = record {
  in_order = before;
  within = h;
  agree = sym first.3;
  first = first;
  column = apart;
  before = determine;
}
  where
    before : f < n
    before = let b = not_behind I t left n f n first refl in elim (cases_lt f n) [
      | inl l ↦ l
      | inr l ↦ let e : f ≡ n = omega (arith, b, l) in absurd (apart.differ (ap (λ (x : ℕ). value_at I t x c) e))
    ]

-- ---- the determinations of a table, as the code lists them

module _ (schema : List Table) (I : List TableRows) (t : ℕ) (found : List Determines) (all : map as_determination found ≡ (table_of schema t).determinations) where
  here : (k : ℕ) (d : Determines) → k < length found → d ≡ get_or found k d → determination_at schema t k ≡ as_determination d
  here k d h is =
      sym (ap (λ (ds : List Determination). get_or ds k no_determination) all)
      ∙ (get_or-map as_determination found k d no_determination h ∙ ap as_determination (sym is))

  many : length (table_of schema t).determinations ≡ length found
  many = sym (ap length all) ∙ length-map found as_determination

  pub holds_here : (k : ℕ) (d : Determines) → k < length found → d ≡ get_or found k d → RowsDetermine I t d.left.now d.right.now
      → DeterminationHolds schema (facts I) t k
  holds_here k d h is r =
      determination_holds schema I t k (subst (λ (x : Determination). RowsDetermine I t x.left x.right) (sym (here k d h is)) r)

  pub broken_here : (k : ℕ) (d : Determines) (a : Apart) → k < length found → d ≡ get_or found k d → IsViolation I t d.left.now d.right.now a
      → ((j : ℕ) → j < k → DeterminationHolds schema (facts I) t j)
      → IsBrokenIn schema I t (record { table = t; key = k; left = a.left; right = a.right; column = a.column })
  broken_here k d a h is apart before = record {
    table = refl;
    is_there = there;
    before = before;
    in_order = less;
    within = within;
    break = record {
      left = fact_there I t a.left (omega (arith, less, within));
      right = fact_there I t a.right within;
      table = refl;
      of_table = in_at (table_of schema t).determinations k no_determination there;
      same = subst (λ (x : Determination). values_in x.left (row_at I t a.left) ≡ values_in x.left (row_at I t a.right)) (sym one) (sym apart.agree);
      column = subst (λ (x : Determination). a.column ∈ x.right) (sym one) (rw apart.column.column (in_at d.right.now apart.column.place 0 apart.column.within));
      differ = apart.column.differ;
    };
  }
    where
      less : a.left < a.right
      less = apart.in_order

      within : a.right < length (rows_of I t)
      within = apart.within

      one : determination_at schema t k ≡ as_determination d
      one = here k d h is

      there : k < length (table_of schema t).determinations
      there = let m = many in omega (arith, m, h)

  pub all_hold : (n : ℕ) → length found ≤ n → ((j : ℕ) → j < n → DeterminationHolds schema (facts I) t j) → AllIn schema I t
  all_hold n h each k there = let m = many in each k (omega (arith, there, m, h))

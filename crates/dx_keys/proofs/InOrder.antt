-- Values in order, and the rows of their numbers.
use Rattle.std.proofs.Common.{◌≡◌, ◌∙◌, ℕ, ◌+◌, ◌-◌, ◌<◌, ◌≤◌, ◌^◌, List, [], ◌∷◌, ◌++◌, inl, inr, refl, sym, ap, subst, length, get_or, take, map, arith}
use Rattle.std.specs.List.{range_with_len}
use Rattle.std.specs.declared.cmp.Ordering.TheVariants.{Less, Equal, Greater}
use Rattle.std.proofs.lemmas.Bool.{cases_eq}
use Rattle.std.proofs.lemmas.List.{get_or_default, length-map, take_all, take_more}
use Rattle.std.proofs.lemmas.List.FromFn.{length-range_with_len}
use Rattle.dx_base.specs.Members.{◌∈◌, Distinct, Each}
use Rattle.dx_base.proofs.Members.{in_map}
use Rattle.dx_model.specs.declared.values.NullId.{NullId}
use Rattle.dx_model.specs.declared.values.Value.{Value}
use Rattle.dx_model.specs.declared.values.Value.TheVariants.{Const, Null}
use Rattle.dx_model.specs.Tables.{cell}
use Rattle.dx_model.specs.Values.{value_cmp}
use Rattle.dx_base.specs.Texts.{Text}
use Rattle.dx_instance.specs.Cells.{NumberTable, numbers_at, with_numbers}
use Rattle.dx_instance.specs.Numbers.{ValuesDiffer, IsOrdering, ValuesAscend, value_of}
use Rattle.dx_instance.specs.Shown.{NumbersFit, PartsFit, NumberRowsFit, renumbered, shown, shown_row, shown_tables}
use Rattle.dx_instance.specs.Stored.{TableRows}
use Rattle.dx_instance.proofs.NumberFacts.{self_equal}
use Rattle.dx_instance.proofs.SortFacts.{images_fit, parts_rows, ranks_show}
use Rattle.dx_chase.specs.Joins.{nth}
use Rattle.dx_chase.proofs.Opening.{at_first}
use Rattle.dx_keys.specs.Numbers.{AreValues}

-- values that are in order keep their numbers
pub same_order : (S T : List Value) (ranks : List ℕ) (n : ℕ) → ValuesAscend S → T ≡ S → n ≡ length S → ranks ≡ range_with_len 0 n → IsOrdering S T ranks
same_order S T ranks n up e m r = rw (e, r, m) (record {
  ascend = up;
  fewer = omega arith;
  only = λ v m. m;
  ranked = length-range_with_len 0 (length S);
  within = λ n h. rw (at_first (length S) n h) h;
  at = λ n h. ap (value_of S) (at_first (length S) n h);
})

-- the first values are constants
abbrev pub AreConstants : List Value → ℕ → Type 0
AreConstants S n = (i : ℕ) → i < n → (t : Text) × (cell S i ≡ Const t)

pub constants_more : (S : List Value) (n : ℕ) (t : Text) (v : Value) → AreConstants S n → v ≡ cell S n → v ≡ Const t → AreConstants S (n + 1)
constants_more S n t v f e q i h = elim (cases_eq i n) [ inl k ↦ (t, ap (cell S) k ∙ (sym e ∙ q)) | inr k ↦ f i (omega arith) ]

after_null : (v : Value) (m : NullId) → value_cmp (Null m) v ≡ Less → (n : NullId) × (v ≡ Null n)
after_null (Const t) m e = absurd (clash e)
  where
    clash : Greater ≡ Less → ⊥
    clash e = cc
after_null (Null n) m e = (n, refl)

pub values_until : (S : List Value) (n : ℕ) (m : NullId) (v : Value) → ValuesAscend S → AreConstants S n → n < length S → v ≡ cell S n → v ≡ Null m → AreValues n S
values_until S n m v up f h e q = record {
  ascend = λ i j l k. up i j (Const []) l k;
  constants = λ i l k. f i l;
  nulls = λ i l k. elim (cases_eq i n) [
    | inl s ↦ (m, ap (cell S) s ∙ (sym e ∙ q))
    | inr s ↦ after_null (cell S i) m (rw (sym e ∙ q) at (up n i (Const []) (omega arith) k))
  ];
}

pub values_all : (S : List Value) (n : ℕ) → ValuesAscend S → AreConstants S n → length S ≤ n → AreValues n S
values_all S n up f h = record {
  ascend = λ i j l k. up i j (Const []) l k;
  constants = λ i l k. f i l;
  nulls = λ i l k. absurd (omega arith);
}

pub values_ascend : (S : List Value) (n : ℕ) → AreValues n S → ValuesAscend S
values_ascend S n V i j d l k = rw (get_or_default S i d (Const []) (omega arith), get_or_default S j d (Const []) k) (V.ascend i j l k)

-- the first p rows of a table
abbrev pub first_rows : NumberTable → ℕ → NumberTable
first_rows t p = record { width = t.width; rows = take p t.rows }

with_rows : (t : NumberTable) (a b : List (List ℕ)) → a ≡ b → ◌≡◌ {A = NumberTable} (record { width = t.width; rows = a }) (record { width = t.width; rows = b })
with_rows t a b e i = record { width = t.width; rows = e i }

pub rows_more : (t r new : NumberTable) (p : ℕ) (row : List ℕ) → p < length t.rows → r ≡ first_rows t p → row ≡ numbers_at t.rows p → new ≡ with_numbers r row → new ≡ first_rows t (p + 1)
rows_more t r new p row h e q n =
    n ∙ (ap (λ (x : NumberTable). with_numbers x row) e ∙ with_rows t _ _ (ap (λ (x : List ℕ). take p t.rows ++ x ∷ []) q ∙ sym (take_more t.rows p [] h)))

pub rows_all : (t r : NumberTable) (p : ℕ) → length t.rows ≤ p → r ≡ first_rows t p → r ≡ t
rows_all t r p h e = e ∙ with_rows t _ _ (take_all p t.rows h)

-- numbers in order are apart
pub apart : (S : List Value) → ValuesAscend S → ValuesDiffer S
apart S up i j d h k e = differ (sym (self_equal (get_or S i d)) ∙ (ap (value_cmp (get_or S i d)) e ∙ up i j d h k))
  where
    differ : Equal ≡ Less → ⊥
    differ q = cc

distinct_of : (S : List Value) (rows : List (List ℕ)) → Distinct (map (shown_row S) rows) → Distinct rows
distinct_of S [] d = tt
distinct_of S (r ∷ rows) d = ((λ m. d.0 (in_map (shown_row S) m)), distinct_of S rows d.1)

-- what holds of tables that are shown holds of their numbers
fits_of : (S : List Value) (t : NumberTable) → NumberRowsFit (length S) t → Each (shown S t).rows (λ (r : List Value). length r ≡ t.width) → Distinct (shown S t).rows → length (shown S t).rows < 2 ^ 32
    → NumbersFit (length S) t
fits_of S t f w d l = record {
  columns = f.columns;
  each = λ r m. sym (length-map r (value_of S)) ∙ w (shown_row S r) (in_map (shown_row S) m);
  within = f.within;
  distinct = distinct_of S t.rows d;
  few = rw (length-map t.rows (shown_row S)) at l;
}

pub parts_of : (S : List Value) (ts : List NumberTable) (I : List TableRows) → ValuesAscend S → length S < 2 ^ 32 → Each ts (NumberRowsFit (length S)) → shown_tables S ts ≡ I → length ts < 2 ^ 32 - 1
    → Each I (λ (t : TableRows). Each t.rows (λ (r : List Value). length r ≡ t.width)) → Each I (λ (t : TableRows). Distinct t.rows) → Each I (λ (t : TableRows). length t.rows < 2 ^ 32) → PartsFit S ts
parts_of S ts I up small f e few w d l = record {
  apart = apart S up;
  small = small;
  each = λ t m.
      let k : shown S t ∈ I = subst (λ (J : List TableRows). shown S t ∈ J) e (in_map (shown S) m) in
      fits_of S t (f t m) (w (shown S t) k) (d (shown S t) k) (l (shown S t) k);
  few = few;
}

-- tables with ranks in the place of numbers show the same, and fit
pub ranked_parts : (I : List TableRows) (S T : List Value) (ranks : List ℕ) (ts us : List NumberTable) → IsOrdering S T ranks → PartsFit S ts → us ≡ map (renumbered ranks) ts → shown_tables S ts ≡ I
    → Each I (λ (t : TableRows). Each t.rows (λ (r : List Value). length r ≡ t.width)) → Each I (λ (t : TableRows). Distinct t.rows) → Each I (λ (t : TableRows). length t.rows < 2 ^ 32)
    → (shown_tables T us ≡ I) × PartsFit T us
ranked_parts I S T ranks ts us o P e s w d l =
    let below : (x : ℕ) → x < length S → nth ranks x < length T = λ x h. let k = o.within x h in omega (arith, k) in
    let fit = images_fit (length T) (length S) ranks ts below (parts_rows S ts P) in
    let is = ranks_show S T ranks ts o (parts_rows S ts P) ∙ s in
    let few : length (map (renumbered ranks) ts) < 2 ^ 32 - 1 = (let m = length-map ts (renumbered ranks) in let f = P.few in omega arith) in
    let small : length T < 2 ^ 32 = (let m = o.fewer in let f = P.small in omega (arith, m, f)) in
    rw e (is, parts_of T (map (renumbered ranks) ts) I o.ascend small fit is few w d l)

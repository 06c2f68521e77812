-- The nulls of rows joined in trees by their numbers.
use Rattle.std.proofs.Common.{◌≡◌, ℕ, ◌+◌, ◌-◌, ◌<◌, ◌≤◌, List, [], inl, inr, sym, ◌∙◌, ap, subst, arith}
use Rattle.std.proofs.Common.{length, get_or, take}
use Rattle.std.proofs.lemmas.Bool.{cases_lt}
use Rattle.std.proofs.lemmas.List.{length-map, get_or-map, get_or_past}
use Rattle.dx_base.specs.Members.{◌∈◌, Each}
use Rattle.dx_base.proofs.Members.{in_at, in_map, from_map, from_flat_map}
use Rattle.dx_model.specs.declared.values.NullId.{NullId}
use Rattle.dx_model.specs.declared.values.Value.{Value}
use Rattle.dx_model.specs.declared.values.Value.TheVariants.{Null}
use Rattle.dx_model.specs.declared.facts.Fact.{Fact}
use Rattle.dx_instance.specs.Cells.{NumberTable}
use Rattle.dx_instance.specs.Numbers.{value_of}
use Rattle.dx_instance.specs.Shown.{NumberedInstance, PartsFit, NumbersBelow, numbers_of_table, shown_row}
use Rattle.dx_blocks.specs.declared.numbered.At.{At}
use Rattle.dx_blocks.specs.Nulls.{StandsIn}
use Rattle.dx_model.specs.Values.{null_at}
use Rattle.dx_blocks.specs.Forest.{IsTreeUnion}
use Rattle.dx_blocks.specs.Labels.{JoinsRow}
use Rattle.dx_blocks.specs.Numbered.{IsRowIn, fact_of, null_under}
use Rattle.dx_blocks.specs.NullRows.{IsFirstNull, facts_of, nulls_from, row_numbers}
use Rattle.dx_blocks.proofs.Labelling.{RowSoFar, AllSoFar, Knows, null_more, no_null_more, row_joined, fact_joined, fact_passed}
use Rattle.dx_blocks.proofs.NullRowFacts.{nulls_at, nulls_many, nulls_up, row_is, row_known}

none_there : (x : ℕ) → x ∈ [] → ⊥
none_there x m = elim m [ ]

-- a row that has a number is there
pub row_with_number : (N : NumberedInstance) (a : At) (x : ℕ) → x ∈ row_numbers N a → IsRowIn N a
row_with_number N a x m = record { table = table; place = place }
  where
    place : a.place < length (numbers_of_table N.tables a.table).rows
    place = elim (cases_lt a.place (length (numbers_of_table N.tables a.table).rows)) [
      | inl l ↦ l
      | inr l ↦ absurd (none_there x (subst (λ (r : List ℕ). x ∈ r) (get_or_past (numbers_of_table N.tables a.table).rows a.place [] l) m))
    ]

    table : a.table < length N.tables
    table = elim (cases_lt a.table (length N.tables)) [
      | inl l ↦ l
      | inr l ↦
          let past = get_or_past N.tables a.table (record { width = 0; rows = [] }) l in
          let e : length (numbers_of_table N.tables a.table).rows ≡ 0 = ap (λ (t : NumberTable). length t.rows) past in
          absurd (omega (arith, place, e))
    ]

-- the place of a null in the list of those from the first on
pub place_of_number : (N : NumberedInstance) (first n : ℕ) → first ≤ n → n < length N.symbols
    → (n - first < length (nulls_from N first)) × (null_at (nulls_from N first) (n - first) ≡ null_under N n)
place_of_number N first n l h =
    let w : n - first < length N.symbols - first = omega arith in
    let e : first + (n - first) ≡ n = omega arith in
    (rw (nulls_many N first) w, nulls_at N first (n - first) w ∙ ap (null_under N) e)

pub stands : (N : NumberedInstance) (first n : ℕ) (row : List ℕ) → IsFirstNull N first → NumbersBelow (length N.symbols) row → n ∈ row → first ≤ n
    → StandsIn (nulls_from N first) (shown_row N.symbols row) (n - first)
stands N first n row s b m l =
    let w = place_of_number N first n l (b n m) in
    let e : value_of N.symbols n ≡ Null (null_at (nulls_from N first) (n - first)) = s.nulls n l (b n m) ∙ ap Null (sym w.1) in
    record { within = w.0; there = subst (λ (v : Value). v ∈ shown_row N.symbols row) e (in_map (value_of N.symbols) m) }

module _ (N : NumberedInstance) (first one : ℕ) (row : List ℕ) (s : IsFirstNull N first) (b : NumbersBelow (length N.symbols) row) (P Q : List ℕ) (i : ℕ)
    (h : i < length row)
    (r : RowSoFar (nulls_from N first) (shown_row N.symbols row) (take i (shown_row N.symbols row)) (one - first) P Q) where
  abbrev v : Value
  v = value_of N.symbols (get_or row i 0)

  within : i < length (shown_row N.symbols row)
  within = rw (length-map row (value_of N.symbols)) h

  is : v ≡ get_or (shown_row N.symbols row) i v
  is = sym (get_or-map (value_of N.symbols) row i 0 v h)

  below : get_or row i 0 < length N.symbols
  below = b (get_or row i 0) (in_at row i 0 h)

  pub number_joined : (R : List ℕ) → one ∈ row → first ≤ one → first ≤ get_or row i 0 → IsTreeUnion Q R (one - first) (get_or row i 0 - first)
      → RowSoFar (nulls_from N first) (shown_row N.symbols row) (take (i + 1) (shown_row N.symbols row)) (one - first) P R
  number_joined R m l k j =
      let w = place_of_number N first (get_or row i 0) k below in
      null_more (nulls_from N first) (shown_row N.symbols row) (one - first) P Q i v within is r R (get_or row i 0 - first)
      (null_under N (get_or row i 0)) (nulls_up N first s) (stands N first one row s b m l) w.0 w.1 (s.nulls (get_or row i 0) k below) j

  pub number_passed : get_or row i 0 < first
      → RowSoFar (nulls_from N first) (shown_row N.symbols row) (take (i + 1) (shown_row N.symbols row)) (one - first) P Q
  number_passed k = no_null_more (nulls_from N first) (shown_row N.symbols row) (one - first) P Q i v within is r (s.constants (get_or row i 0) k)

pub numbers_joined : (N : NumberedInstance) (first place i : ℕ) (a : At) (row : List ℕ) (P Q : List ℕ) → IsRowIn N a → row ≡ row_numbers N a → length row ≤ i
    → RowSoFar (nulls_from N first) (shown_row N.symbols row) (take i (shown_row N.symbols row)) place P Q
    → JoinsRow (nulls_from N first) (fact_of N a).row P Q
numbers_joined N first place i a row P Q r e h s =
    let long : length (shown_row N.symbols row) ≤ i = rw (length-map row (value_of N.symbols)) h in
    let j = row_joined (nulls_from N first) (shown_row N.symbols row) place i P Q long s in
    subst (λ (vs : List Value). JoinsRow (nulls_from N first) vs P Q) (ap (shown_row N.symbols) e ∙ sym (row_is N a r)) j

-- a row without nulls
pub no_nulls : (N : NumberedInstance) (first : ℕ) (a : At) → IsFirstNull N first → IsRowIn N a → Each (row_numbers N a) (λ n. n < first)
    → (m : NullId) → ¬ (Null m ∈ (fact_of N a).row)
no_nulls N first a s r none m i =
    let w = from_map (value_of N.symbols) (row_numbers N a) (rw (row_is N a r) at i) in
    s.constants w.0 (none w.0 w.1) m w.2

pub rows_known : (N : NumberedInstance) (first : ℕ) (rows : List At) → PartsFit N.symbols N.tables → IsFirstNull N first → Each rows (IsRowIn N)
    → Knows (facts_of N rows) (nulls_from N first)
rows_known N first rows f s r m v =
    let w = from_flat_map (λ (g : Fact). g.row) (facts_of N rows) v in
    let k = from_map (fact_of N) rows w.1 in
    row_known N first k.0 m f s (r k.0 k.1) (rw (← k.2) at w.2)

module _ (N : NumberedInstance) (ns : List NullId) (rows : List At) (P Q : List ℕ) (i : ℕ) (a : At) (h : i < length rows) (e : a ≡ get_or rows i a)
    (s : AllSoFar (facts_of N rows) (take i (facts_of N rows)) ns P Q) where
  fact_within : i < length (facts_of N rows)
  fact_within = rw (length-map rows (fact_of N)) h

  fact_is : fact_of N a ≡ get_or (facts_of N rows) i (fact_of N a)
  fact_is = ap (fact_of N) e ∙ sym (get_or-map (fact_of N) rows i a (fact_of N a) h)

  pub at_joined : (R : List ℕ) → JoinsRow ns (fact_of N a).row Q R → AllSoFar (facts_of N rows) (take (i + 1) (facts_of N rows)) ns P R
  at_joined R j = fact_joined (facts_of N rows) ns P Q i (fact_of N a) fact_within fact_is s R j

  pub at_passed : ((n : NullId) → ¬ (Null n ∈ (fact_of N a).row)) → AllSoFar (facts_of N rows) (take (i + 1) (facts_of N rows)) ns P Q
  at_passed none = fact_passed (facts_of N rows) ns P Q i (fact_of N a) fact_within fact_is s none

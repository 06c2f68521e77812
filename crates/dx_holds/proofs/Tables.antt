-- The facts of an instance by the places of rows, and the tables of its schema.
use Rattle.std.proofs.Common.{◌≡◌, ◌∙◌, ℕ, zero, suc, ◌+◌, ◌<◌, ◌≤◌, List, [], ◌∷◌, inl, inr, refl, sym, ap, subst, arith, length, get_or, drop, drop-cons}
use Rattle.std.specs.Prelude.{map}
use Rattle.std.specs.List.{range_with_len}
use Rattle.std.proofs.lemmas.Bool.{cases_lt}
use Rattle.std.proofs.lemmas.List.{length-map, get_or-map, get_or_default}
use Rattle.dx_base.specs.Members.{◌∈◌, Distinct, Each}
use Rattle.dx_base.proofs.Members.{in_at, in_left, in_map, in_right, from_append, from_map, contains_from_in}
use Rattle.dx_model.specs.declared.values.Value.{Value}
use Rattle.dx_model.specs.declared.values.Value.TheVariants.{Const}
use Rattle.dx_model.specs.declared.tables.Key.{Key}
use Rattle.dx_model.specs.declared.tables.Dep.{Dep}
use Rattle.dx_model.specs.declared.tables.Link.{Link}
use Rattle.dx_model.specs.Tables.{Determination, KeysHold, LinksHold, RowsObey, Table, cell, key_of, table_of, values_in}
use Rattle.dx_schema.specs.Forest.{Forest}
use Rattle.dx_schema.specs.Tables.{AreTables, TableOf, as_numbers, dep_of, determinations_of, key_determinations, model_tables, no_table, schema_widths, tables_of}
use Rattle.dx_schema.specs.Tables.{schema_table}
use Rattle.dx_instance.specs.Stored.{TableRows, facts, rows_of, table_at, widths}
use Rattle.dx_instance.specs.Places.{row_at}
use Rattle.dx_instance.proofs.StoredFacts.{fact_from_row, fact_table, row_from_fact}
use Rattle.dx_holds.specs.Columns.{LinkFitsInstance, RowsDetermine, RowsDiffer, RowsLead, TableHolds}

-- ---- tables of the schema

abbrev no_numbers : Table
no_numbers = record { width = 0; determinations = []; links = []; optional = [] }

abbrev no_rows : TableRows
no_rows = record { width = 0; rows = [] }

pub as_many : (f : Forest) (I : List TableRows) → widths I ≡ schema_widths f → length I ≡ length (tables_of f)
as_many f I e = sym (length-map I (λ (t : TableRows). t.width)) ∙ (ap length e ∙ length-map (tables_of f) (λ (t : TableOf). length t.columns))

pub numbers_at : (f : Forest) (t : ℕ) → t < length (tables_of f) → table_of (model_tables f) t ≡ as_numbers (schema_table f t)
numbers_at f t h = get_or-map as_numbers (tables_of f) t no_table no_numbers h

pub as_wide : (f : Forest) (I : List TableRows) (t : ℕ) → widths I ≡ schema_widths f → t < length I → (table_at I t).width ≡ length (schema_table f t).columns
as_wide f I t e h =
    let k : t < length (tables_of f) = omega (arith, h, as_many f I e) in
    sym (get_or-map (λ (u : TableRows). u.width) I t no_rows 0 h) ∙ (ap (λ (ws : List ℕ). get_or ws t 0) e ∙ get_or-map (λ (u : TableOf). length u.columns) (tables_of f) t no_table 0 k)

-- ---- rows

pub place_of : (I : List TableRows) (t : ℕ) (row : List Value) → row ∈ rows_of I t → (p : ℕ) × (p < length (rows_of I t)) × (row_at I t p ≡ row)
place_of I t row m =
    let k = contains_from_in m in
    (k.0, k.1, get_or_default (rows_of I t) k.0 [] row k.1 ∙ k.2)

-- a row's values in all its columns are the row
values_from : (n a : ℕ) (row : List Value) → a + n ≡ length row → map (cell row) (range_with_len a n) ≡ drop a row
values_from zero a row h = let e : a ≡ length row = omega arith in sym (ap (λ (k : ℕ). drop k row) e ∙ all_dropped row)
  where
    all_dropped : (xs : List Value) → drop (length xs) xs ≡ []
    all_dropped [] = refl
    all_dropped (x ∷ xs) = all_dropped xs
values_from (suc n) a row h =
    let s : a + 1 ≡ suc a = omega arith in
    let rest : map (cell row) (range_with_len (a + 1) n) ≡ drop (suc a) row = values_from n (a + 1) row (omega arith) ∙ ap (λ (k : ℕ). drop k row) s in
    ap (λ (vs : List Value). cell row a ∷ vs) rest ∙ sym (drop-cons row a (Const []) (omega arith))

-- distinct members stand at one place each
pub apart : (rows : List (List Value)) (p q : ℕ) → Distinct rows → p < q → q < length rows → ¬ (get_or rows p [] ≡ get_or rows q [])
apart [] p q d h b e = absurd (omega arith)
apart (r ∷ rows) p zero d h b e = absurd (omega arith)
apart (r ∷ rows) zero (suc q) d h b e = d.0 (rw e (in_at rows q [] (omega arith)))
apart (r ∷ rows) (suc p) (suc q) d h b e = apart rows p q d.1 (omega arith) (omega arith) e

-- ---- keys and dependencies

abbrev pub WideAliases : List TableRows → Type 0
WideAliases I = Each I (λ t. Each t.rows (λ (r : List Value). length r ≡ t.width))

abbrev pub DistinctRanks : List TableRows → Type 0
DistinctRanks I = Each I (λ t. Distinct t.rows)

-- the determination of a key of a table
abbrev key_in : TableOf → Key → Determination
key_in t k = key_of (length t.columns) k.columns

determined : (I : List TableRows) (t : ℕ) (left right : List ℕ) (a b : List Value) → RowsDetermine I t left right → a ∈ rows_of I t → b ∈ rows_of I t → RowsObey a b (record { left = left; right = right })
determined I t left right a b d m n e =
    let p = place_of I t a m in
    let q = place_of I t b n in
    let pl : values_in left (row_at I t p.0) ≡ values_in left a = ap (values_in left) p.2 in
    let ql : values_in left (row_at I t q.0) ≡ values_in left b = ap (values_in left) q.2 in
    let pr : values_in right (row_at I t p.0) ≡ values_in right a = ap (values_in right) p.2 in
    let qr : values_in right (row_at I t q.0) ≡ values_in right b = ap (values_in right) q.2 in
    elim (cases_lt p.0 q.0) [
      | inl l ↦ let r = d p.0 q.0 l q.1 (ql ∙ (sym e ∙ sym pl)) in sym pr ∙ (sym r ∙ qr)
      | inr l ↦ elim (cases_lt q.0 p.0) [
        | inl k ↦ let r = d q.0 p.0 k p.1 (pl ∙ (e ∙ sym ql)) in sym pr ∙ (r ∙ qr)
        | inr k ↦ let s : p.0 ≡ q.0 = omega (arith, l, k) in sym pr ∙ (ap (λ (x : ℕ). values_in right (row_at I t x)) s ∙ qr)
      ]
    ]

pub same_rows : (I : List TableRows) (t : ℕ) (columns : List ℕ) (a b : List Value) → RowsDiffer I t columns → a ∈ rows_of I t → b ∈ rows_of I t → values_in columns a ≡ values_in columns b → a ≡ b
same_rows I t columns a b d m n e =
    let p = place_of I t a m in
    let q = place_of I t b n in
    let ap_is : values_in columns (row_at I t p.0) ≡ values_in columns a = ap (values_in columns) p.2 in
    let bq_is : values_in columns (row_at I t q.0) ≡ values_in columns b = ap (values_in columns) q.2 in
    elim (cases_lt p.0 q.0) [
      | inl l ↦ absurd (d p.0 q.0 l q.1 (bq_is ∙ (sym e ∙ sym ap_is)))
      | inr l ↦ elim (cases_lt q.0 p.0) [
        | inl k ↦ absurd (d q.0 p.0 k p.1 (ap_is ∙ (e ∙ sym bq_is)))
        | inr k ↦ let s : p.0 ≡ q.0 = omega (arith, l, k) in sym p.2 ∙ (ap (row_at I t) s ∙ q.2)
      ]
    ]

-- rows of a table in which keys and dependencies hold fit each determination
rows_fit : (table : TableOf) (I : List TableRows) (t : ℕ) (a b : List Value) → TableHolds I t table → a ∈ rows_of I t → b ∈ rows_of I t → Each (determinations_of table) (RowsObey a b)
rows_fit table I t a b holds m n d k = elim (from_append (key_determinations table) k) [
  | inl i ↦
      let key = from_map (key_in table) table.keys {y = d} i in
      subst (RowsObey a b) key.2 (λ e. ap (values_in (range_with_len 0 (length table.columns))) (same_rows I t key.0.columns a b (holds.0 key.0 key.1) m n e))
  | inr i ↦
      let dep = from_map dep_of table.deps {y = d} i in
      subst (RowsObey a b) dep.2 (determined I t dep.0.columns dep.0.decides a b (holds.1 dep.0 dep.1) m n)
]

pub keys_hold_all : (f : Forest) (I : List TableRows) (n : ℕ) → widths I ≡ schema_widths f → length I ≤ n → ((t : ℕ) → t < n → TableHolds I t (schema_table f t)) → KeysHold (model_tables f) (facts I)
keys_hold_all f I n e h all a m b o same d k =
    let u = fact_table I a m in
    let there : d ∈ determinations_of (schema_table f a.table) = rw (numbers_at f a.table (omega (arith, u, as_many f I e))) at k in
    rows_fit (schema_table f a.table) I a.table a.row b.row (all a.table (omega (arith, u, h))) (row_from_fact I a m) (subst (λ (t : ℕ). b.row ∈ rows_of I t) (sym same) (row_from_fact I b o)) d there

-- ---- what follows from keys that hold

module _ (f : Forest) (I : List TableRows) (t : ℕ) (e : widths I ≡ schema_widths f) (h : t < length I) (hold : KeysHold (model_tables f) (facts I)) where
  -- rows at two places fit each determination of the table
  places_fit : (p q : ℕ) → p < q → q < length (rows_of I t) → Each (determinations_of (schema_table f t)) (RowsObey (row_at I t p) (row_at I t q))
  places_fit p q b r d m =
      let row_p = in_at (rows_of I t) p [] (omega (arith, b, r)) in
      let row_q = in_at (rows_of I t) q [] r in
      let there : d ∈ (table_of (model_tables f) t).determinations = rw (numbers_at f t (omega (arith, h, as_many f I e))) m in
      hold (record { table = t; row = row_at I t p }) (fact_from_row I t (row_at I t p) row_p) (record { table = t; row = row_at I t q }) (fact_from_row I t (row_at I t q) row_q) refl d there

  rows_determine : (d : Dep) → d ∈ (schema_table f t).deps → RowsDetermine I t d.columns d.decides
  rows_determine d m p q b r agree = sym (places_fit p q b r (dep_of d) (in_right (key_determinations (schema_table f t)) (in_map dep_of m)) (sym agree))

  rows_differ : WideAliases I → DistinctRanks I → (k : Key) → k ∈ (schema_table f t).keys → RowsDiffer I t k.columns
  rows_differ wide distinct k m p q b r agree =
      let w : ℕ = length (schema_table f t).columns in
      let row_p = in_at (rows_of I t) p [] (omega (arith, b, r)) in
      let row_q = in_at (rows_of I t) q [] r in
      let right = places_fit p q b r (key_of w k.columns) (in_left (map dep_of (schema_table f t).deps) (in_map (key_in (schema_table f t)) m)) (sym agree) in
      let mine = wide (table_at I t) (in_at I t no_rows h) in
      let wp : 0 + w ≡ length (row_at I t p) = omega (arith, as_wide f I t e h, mine (row_at I t p) row_p) in
      let wq : 0 + w ≡ length (row_at I t q) = omega (arith, as_wide f I t e h, mine (row_at I t q) row_q) in
      apart (rows_of I t) p q (distinct (table_at I t) (in_at I t no_rows h)) b r (sym (values_from w 0 (row_at I t p) wp) ∙ (right ∙ values_from w 0 (row_at I t q) wq))

pub table_holds : (f : Forest) (I : List TableRows) (t : ℕ) → widths I ≡ schema_widths f → WideAliases I → DistinctRanks I → t < length I → KeysHold (model_tables f) (facts I) → TableHolds I t (schema_table f t)
table_holds f I t e wide distinct h hold = (rows_differ f I t e h hold wide distinct, rows_determine f I t e h hold)

-- ---- links

-- the links of a table hold
abbrev pub TableLinks : Forest → List TableRows → ℕ → Type 0
TableLinks f I t = Each (schema_table f t).links (RowsLead I t)

pub links_hold_all : (f : Forest) (I : List TableRows) (n : ℕ) → widths I ≡ schema_widths f → length I ≤ n → ((t : ℕ) → t < n → TableLinks f I t) → LinksHold (model_tables f) (facts I)
links_hold_all f I n e h all a m link k =
    let u = fact_table I a m in
    let there : link ∈ (schema_table f a.table).links = rw (numbers_at f a.table (omega (arith, u, as_many f I e))) at k in
    let p = place_of I a.table a.row (row_from_fact I a m) in
    let q = all a.table (omega (arith, u, h)) link there p.0 p.1 in
    (record { table = link.table; row = row_at I link.table q.0 }, fact_from_row I link.table (row_at I link.table q.0) (in_at (rows_of I link.table) q.0 [] q.1), refl, q.2 ∙ ap (values_in link.from) p.2)

pub table_links : (f : Forest) (I : List TableRows) (t : ℕ) → widths I ≡ schema_widths f → t < length I → LinksHold (model_tables f) (facts I) → TableLinks f I t
table_links f I t e h hold link m p b =
    let there : link ∈ (table_of (model_tables f) t).links = rw (numbers_at f t (omega (arith, h, as_many f I e))) m in
    let g = hold (record { table = t; row = row_at I t p }) (fact_from_row I t (row_at I t p) (in_at (rows_of I t) p [] b)) link there in
    let q = place_of I link.table g.0.row (subst (λ (u : ℕ). g.0.row ∈ rows_of I u) g.2 (row_from_fact I g.0 g.1)) in
    (q.0, q.1, ap (values_in link.to) q.2 ∙ g.3)

-- a link of the schema fits an instance with its widths
pub link_fits : (f : Forest) (I : List TableRows) (t : ℕ) (link : Link) → widths I ≡ schema_widths f → AreTables (tables_of f) → t < length I → link ∈ (schema_table f t).links → LinkFitsInstance I (table_at I t).width link
link_fits f I t link e tables h m =
    let k : t < length (tables_of f) = omega (arith, h, as_many f I e) in
    let is = (tables.each_table (schema_table f t) (in_at (tables_of f) t no_table k)).links link m in
    let there : link.table < length I = omega (arith, is.table, as_many f I e) in
    record {
      table = there;
      lengths = is.same_length;
      from = rw (as_wide f I t e h) is.from;
      to = rw (as_wide f I link.table e there, ← get_or-map (λ (u : TableOf). u.columns) (tables_of f) link.table no_table [] is.table) is.to;
    }

-- the columns of a key are columns of the table
pub key_fits : (f : Forest) (I : List TableRows) (t : ℕ) (key : Key) → widths I ≡ schema_widths f → AreTables (tables_of f) → t < length I → key ∈ (schema_table f t).keys → (c : ℕ) → c ∈ key.columns → c < (table_at I t).width
key_fits f I t key e tables h m =
    let k : t < length (tables_of f) = omega (arith, h, as_many f I e) in
    rw (as_wide f I t e h) ((tables.each_table (schema_table f t) (in_at (tables_of f) t no_table k)).keys key m).within

-- the columns of a dependency are columns of the table
pub dep_fits : (f : Forest) (I : List TableRows) (t : ℕ) (dep : Dep) → widths I ≡ schema_widths f → AreTables (tables_of f) → t < length I → dep ∈ (schema_table f t).deps
    → ((c : ℕ) → c ∈ dep.columns → c < (table_at I t).width) × ((c : ℕ) → c ∈ dep.decides → c < (table_at I t).width)
dep_fits f I t dep e tables h m =
    let k : t < length (tables_of f) = omega (arith, h, as_many f I e) in
    let is = (tables.each_table (schema_table f t) (in_at (tables_of f) t no_table k)).deps dep m in
    rw (as_wide f I t e h) (is.columns.within, is.decides.within)

-- Determinations and links of stored instances, by their numbers.
use Rattle.std.proofs.Common.{◌≡◌, ◌∙◌, ℕ, ◌<◌, ◌≤◌, List, [], inl, inr, refl, sym, ap, subst, arith, length, get_or}
use Rattle.std.specs.Prelude.{Bool, IsTrue, ◌↔◌}
use Rattle.std.proofs.lemmas.Bool.{cases_lt}
use Rattle.std.proofs.lemmas.List.{get_or_default}
use Rattle.dx_base.specs.Members.{◌∈◌}
use Rattle.dx_base.proofs.Members.{contains_from_in, in_at, map_agrees}
use Rattle.dx_model.specs.declared.facts.Fact.{Fact}
use Rattle.dx_model.specs.declared.tables.Link.{Link}
use Rattle.dx_model.specs.declared.values.Value.{Value}
use Rattle.dx_model.specs.Chase.{Break}
use Rattle.dx_model.specs.Tables.{Determination, KeysHold, LinksHold, RowsObey, Table, cell, table_of, values_in, determination_at}
use Rattle.dx_schema.specs.Forest.{Forest}
use Rattle.dx_schema.specs.Tables.{AreTables, model_tables, no_table, schema_widths, tables_of}
use Rattle.dx_schema.specs.Tables.{schema_table}
use Rattle.dx_instance.specs.Stored.{TableRows, facts, rows_of, widths}
use Rattle.dx_instance.specs.Places.{row_at, fact_at}
use Rattle.dx_instance.proofs.StoredFacts.{fact_from_row, fact_table, row_from_fact}
use Rattle.dx_holds.specs.Columns.{RowsDetermine, RowsLead}
use Rattle.dx_holds.proofs.Narrowing.{distinct_few}
use Rattle.dx_holds.proofs.Tables.{as_many, numbers_at, place_of}
use Rattle.dx_fails.specs.Firsts.{DeterminationHolds, HasDetermination, HasLink, HasLinked, LinkHolds, link_at}
use Rattle.dx_fails.specs.Shown.{AreShadows, HasLinkedRow}

abbrev pub no_link : Link
no_link = record { from = []; table = 0; to = [] }

abbrev pub no_determination : Determination
no_determination = record { left = []; right = [] }

pub fact_there : (I : List TableRows) (t p : ℕ) → p < length (rows_of I t) → fact_at I t p ∈ facts I
fact_there I t p h = fact_from_row I t (row_at I t p) (in_at (rows_of I t) p [] h)

-- ---- determinations

-- rows that determine fit
rows_fit : (I : List TableRows) (t : ℕ) (left right : List ℕ) (a b : List Value) → RowsDetermine I t left right → a ∈ rows_of I t → b ∈ rows_of I t
    → RowsObey a b (record { left = left; right = right })
rows_fit I t left right a b d m n e =
    let p = place_of I t a m in
    let q = place_of I t b n in
    let pl : values_in left (row_at I t p.0) ≡ values_in left a = ap (values_in left) p.2 in
    let ql : values_in left (row_at I t q.0) ≡ values_in left b = ap (values_in left) q.2 in
    let pr : values_in right (row_at I t p.0) ≡ values_in right a = ap (values_in right) p.2 in
    let qr : values_in right (row_at I t q.0) ≡ values_in right b = ap (values_in right) q.2 in
    elim (cases_lt p.0 q.0) [
      | inl l ↦ let r = d p.0 q.0 l q.1 (ql ∙ (sym e ∙ sym pl)) in sym pr ∙ (sym r ∙ qr)
      | inr l ↦ elim (cases_lt q.0 p.0) [
        | inl k ↦ let r = d q.0 p.0 k p.1 (pl ∙ (e ∙ sym ql)) in sym pr ∙ (r ∙ qr)
        | inr k ↦ let s : p.0 ≡ q.0 = omega (arith, l, k) in sym pr ∙ (ap (λ (x : ℕ). values_in right (row_at I t x)) s ∙ qr)
      ]
    ]

pub determination_holds : (schema : List Table) (I : List TableRows) (t k : ℕ)
    → RowsDetermine I t (determination_at schema t k).left (determination_at schema t k).right → DeterminationHolds schema (facts I) t k
determination_holds schema I t k d a m b n p q =
    rows_fit I t (determination_at schema t k).left (determination_at schema t k).right a.row b.row d
    (subst (λ (u : ℕ). a.row ∈ rows_of I u) p (row_from_fact I a m)) (subst (λ (u : ℕ). b.row ∈ rows_of I u) q (row_from_fact I b n))

-- ---- links

module _ (f : Forest) (I : List TableRows) (e : widths I ≡ schema_widths f) (t : ℕ) (h : t < length I) where
  there : t < length (tables_of f)
  there = let m = as_many f I e in omega (arith, h, m)

  pub many_links : length (table_of (model_tables f) t).links ≡ length (schema_table f t).links
  many_links = ap (λ (x : Table). length x.links) (numbers_at f t there)

  pub link_is : (l : ℕ) → link_at (model_tables f) t l ≡ get_or (schema_table f t).links l no_link
  link_is l = ap (λ (x : Table). get_or x.links l no_link) (numbers_at f t there)

  pub link_leads : (l : ℕ) → RowsLead I t (get_or (schema_table f t).links l no_link) → LinkHolds (model_tables f) (facts I) t l
  link_leads l d a m p =
      let place = place_of I t a.row (subst (λ (u : ℕ). a.row ∈ rows_of I u) p (row_from_fact I a m)) in
      let q = d place.0 place.1 in
      let link = get_or (schema_table f t).links l no_link in
      subst (λ (x : Link). HasLinked (facts I) x a) (sym (link_is l))
      (fact_at I link.table q.0, fact_there I link.table q.0 q.1, refl, q.2 ∙ ap (values_in link.from) place.2)

  pub not_linked : (l p : ℕ) → ¬ (HasLinkedRow I t (get_or (schema_table f t).links l no_link) p)
      → ¬ (HasLinked (facts I) (link_at (model_tables f) t l) (fact_at I t p))
  not_linked l p n w =
      let link = get_or (schema_table f t).links l no_link in
      let v = subst (λ (x : Link). HasLinked (facts I) x (fact_at I t p)) (link_is l) w in
      let b = v.0 in
      let q = place_of I link.table b.row (subst (λ (u : ℕ). b.row ∈ rows_of I u) v.2 (row_from_fact I b v.1)) in
      n (q.0, q.1, ap (values_in link.to) q.2 ∙ v.3)

-- what breaks a determination, it does not hold
pub break_fails : (schema : List Table) (K : List Fact) (t k c : ℕ) (a b : Fact) → a.table ≡ t → Break schema K a b (determination_at schema t k) c
    → ¬ (DeterminationHolds schema K t k)
break_fails schema K t k c a b e break hold =
    break.differ (map_agrees (cell a.row) (cell b.row)
    (hold a break.left b break.right e (sym break.table ∙ e) break.same) break.column)

-- a link leaves a row alone, so it does not hold
pub alone_fails : (schema : List Table) (I : List TableRows) (t l p : ℕ) → p < length (rows_of I t)
    → ¬ (HasLinked (facts I) (link_at schema t l) (fact_at I t p)) → ¬ (LinkHolds schema (facts I) t l)
alone_fails schema I t l p h n hold = n (hold (fact_at I t p) (fact_there I t p h) refl)

-- ---- columns of links are few, and there are some

pub link_few : (f : Forest) (I : List TableRows) (t : ℕ) (link : Link) → widths I ≡ schema_widths f → AreTables (tables_of f) → t < length I
    → link ∈ (schema_table f t).links → (1 ≤ length link.from) × (length link.from ≤ 64)
link_few f I t link e tables h m =
    let many = as_many f I e in
    let is = tables.each_table (schema_table f t) (in_at (tables_of f) t no_table (omega (arith, h, many))) in
    let k = is.links link m in
    let few = distinct_few link.from (length (schema_table f t).columns) k.from_distinct k.from in
    let most = is.few_columns in
    (k.some, omega (arith, few, most))

-- ---- all tables

pub keys_hold_by : (f : Forest) (I : List TableRows) (n : ℕ) → length I ≤ n
    → ((t k : ℕ) → t < n → HasDetermination (model_tables f) t k → DeterminationHolds (model_tables f) (facts I) t k) → KeysHold (model_tables f) (facts I)
keys_hold_by f I n many all a m b o same d i =
    let u = fact_table I a m in
    let k = contains_from_in i in
    let is = get_or_default (table_of (model_tables f) a.table).determinations k.0 no_determination d k.1 ∙ k.2 in
    subst (λ (x : Determination). RowsObey a.row b.row x) is (all a.table k.0 (omega (arith, u, many)) k.1 a m b o refl (sym same))

pub links_hold_by : (f : Forest) (I : List TableRows) (n : ℕ) → length I ≤ n
    → ((t l : ℕ) → t < n → HasLink (model_tables f) t l → LinkHolds (model_tables f) (facts I) t l) → LinksHold (model_tables f) (facts I)
links_hold_by f I n many all a m link i =
    let u = fact_table I a m in
    let k = contains_from_in i in
    let is = get_or_default (table_of (model_tables f) a.table).links k.0 no_link link k.1 ∙ k.2 in
    subst (λ (x : Link). HasLinked (facts I) x a) is (all a.table k.0 (omega (arith, u, many)) k.1 a m refl)

-- ---- a look-up among shadows tells whether a row leads

pub looked_up : (I : List TableRows) (t : ℕ) (link : Link) (S : List TableRows) (row : List Value) (p : ℕ) (b : Bool) → row ≡ values_in link.from (row_at I t p)
    → AreShadows I link.table link.to S → (IsTrue b ↔ (row ∈ rows_of S 0)) → IsTrue b ↔ HasLinkedRow I t link p
looked_up I t link S row p b e s w = (
  (λ y. let m = s.only row (w.0 y) in (m.0, m.1, m.2 ∙ e)),
  (λ l. w.1 (subst (λ (r : List Value). r ∈ rows_of S 0) (l.2 ∙ sym e) (s.kept l.0 l.1))),
)

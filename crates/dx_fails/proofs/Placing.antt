-- What a search of one table found, in the words of its schema.
use Rattle.std.proofs.Common.{◌≡◌, ◌∙◌, ℕ, ◌<◌, ◌≤◌, ◌^◌, List, [], inl, inr, refl, sym, ap, subst, arith, length, map, get_or}
use Rattle.std.proofs.lemmas.List.{get_or_default, length-append, length-map}
use Rattle.dx_base.specs.Members.{◌∈◌, Each}
use Rattle.dx_base.proofs.Members.{from_append, from_map, in_at, in_map, item_in}
use Rattle.dx_model.specs.declared.tables.Key.{Key}
use Rattle.dx_model.specs.declared.tables.Link.{Link}
use Rattle.dx_model.specs.Chase.{Break}
use Rattle.dx_model.specs.Tables.{Determination, DeterminationsFit, Table, key_of, table_of, determination_at}
use Rattle.dx_schema.specs.Bounds.{HasSmallNumbers}
use Rattle.dx_schema.specs.Forest.{Forest}
use Rattle.dx_schema.specs.Tables.{AreColumns, AreTables, as_numbers, dep_of, determinations_of, key_determinations, model_tables, no_table, schema_widths, tables_of}
use Rattle.dx_schema.specs.Tables.{schema_table}
use Rattle.dx_instance.specs.Stored.{TableRows, facts, rows_of, table_at, widths}
use Rattle.dx_holds.specs.Columns.{RowsLead}
use Rattle.dx_holds.proofs.Narrowing.{distinct_few}
use Rattle.dx_holds.proofs.Tables.{as_many, as_wide, numbers_at}
use Rattle.dx_fails.specs.declared.alone.LoneRow.{LoneRow}
use Rattle.dx_fails.specs.declared.broken.BrokenKey.{BrokenKey}
use Rattle.dx_fails.specs.declared.determining.Determines.{Determines}
use Rattle.dx_fails.specs.Firsts.{DeterminationHolds, HasDetermination, HasLink, HasLinked, LinkHolds, link_at}
use Rattle.dx_fails.specs.Shown.{AllIn, AllLead, IsBrokenIn, IsBrokenKey, IsLoneIn, IsLoneRow, HasLinkedRow, as_determination}
use Rattle.dx_instance.specs.Places.{fact_at}
use Rattle.dx_fails.proofs.Finding.{alone_fails, break_fails, link_leads, many_links, no_link, not_linked}

-- determinations and links of a table have numbers of 32 bits
pub has_numbers : (f : Forest) (I : List TableRows) (t : ℕ) → widths I ≡ schema_widths f → t < length I → Each (tables_of f) HasSmallNumbers → HasSmallNumbers (schema_table f t)
has_numbers f I t e h each =
    let many = as_many f I e in
    each (schema_table f t) (in_at (tables_of f) t no_table (omega (arith, h, many)))

-- ---- determinations of a table, as the code lists them

module _ (f : Forest) (I : List TableRows) (e : widths I ≡ schema_widths f) (t : ℕ) (h : t < length I) (found : List Determines)
    (all : map as_determination found ≡ determinations_of (schema_table f t)) where
  is_there : t < length (tables_of f)
  is_there = let m = as_many f I e in omega (arith, h, m)

  -- they are those of the schema as numbers
  pub as_listed : map as_determination found ≡ (table_of (model_tables f) t).determinations
  as_listed = all ∙ sym (ap (λ (x : Table). x.determinations) (numbers_at f t is_there))

  pub few_found : (k : ℕ) → k < length found → Each (tables_of f) HasSmallNumbers → k < 2 ^ 32
  few_found k b numbers =
      let table = schema_table f t in
      let many = sym (length-map found as_determination) ∙ (ap length all ∙ length-append (key_determinations table) (map dep_of table.deps)) in
      let keys = length-map table.keys (λ (x : Key). key_of (length table.columns) x.columns) in
      let deps = length-map table.deps dep_of in
      let few = (has_numbers f I t e h numbers).determinations in
      omega (arith, b, many, keys, deps, few)

  module _ (k : ℕ) (d : Determines) (b : k < length found) (is : d ≡ get_or found k d) where
    listed : as_determination d ∈ determinations_of (schema_table f t)
    listed = subst (λ (ds : List Determination). as_determination d ∈ ds) all (in_map as_determination (item_in found k d b is))

    -- its columns are columns of the table
    pub within : DeterminationsFit (model_tables f) → ((c : ℕ) → c ∈ d.left.now → c < (table_at I t).width) × ((c : ℕ) → c ∈ d.right.now → c < (table_at I t).width)
    within fit =
        let many : t < length (model_tables f) = let l = length-map (tables_of f) as_numbers in let m = is_there in omega (arith, l, m) in
        let there : as_determination d ∈ (table_of (model_tables f) t).determinations =
        subst (λ (ds : List Determination). as_determination d ∈ ds) (sym (ap (λ (x : Table). x.determinations) (numbers_at f t is_there))) listed in
        let fits = fit (table_of (model_tables f) t) (in_at (model_tables f) t (record { width = 0; determinations = []; links = []; optional = [] }) many) (as_determination d) there in
        let wide : (table_of (model_tables f) t).width ≡ (table_at I t).width = ap (λ (x : Table). x.width) (numbers_at f t is_there) ∙ sym (as_wide f I t e h) in
        ((λ c m. subst (λ (n : ℕ). c < n) wide (fits.0 c m)), (λ c m. subst (λ (n : ℕ). c < n) wide (fits.1 c m)))

    -- those on the left are few
    pub left_few : AreTables (tables_of f) → length d.left.now ≤ 64
    left_few tables =
        let table = schema_table f t in
        let is_table = tables.each_table table (in_at (tables_of f) t no_table is_there) in
        elim (from_append (key_determinations table) listed) [
          | inl m ↦
              let key = from_map (λ (x : Key). key_of (length table.columns) x.columns) table.keys {y = as_determination d} m in
              few key.0.columns (is_table.keys key.0 key.1) is_table.few_columns (ap (λ (x : Determination). x.left) key.2)
          | inr m ↦
              let dep = from_map dep_of table.deps {y = as_determination d} m in
              few dep.0.columns (is_table.deps dep.0 dep.1).columns is_table.few_columns (ap (λ (x : Determination). x.left) dep.2)
        ]
      where
        few : (columns : List ℕ) → AreColumns (length (schema_table f t).columns) columns → length (schema_table f t).columns ≤ 64 → columns ≡ d.left.now → length d.left.now ≤ 64
        few columns are most same =
            let k = distinct_few columns (length (schema_table f t).columns) are.distinct are.within in
            let l = ap length same in
            omega (arith, k, l, most)

module _ (f : Forest) (I : List TableRows) (e : widths I ≡ schema_widths f) (t : ℕ) (h : t < length I) where
  -- ---- links

  link_here : (links : List Link) (l : ℕ) (link : Link) → links ≡ (schema_table f t).links → l < length links → link ≡ get_or links l link
      → link ≡ get_or (schema_table f t).links l no_link
  link_here links l link same b is = is ∙ (get_or_default links l link no_link b ∙ ap (λ (xs : List Link). get_or xs l no_link) same)

  pub link_holds : (links : List Link) (l : ℕ) (link : Link) → links ≡ (schema_table f t).links → l < length links → link ≡ get_or links l link
      → RowsLead I t link → LinkHolds (model_tables f) (facts I) t l
  link_holds links l link same b is d = link_leads f I e t h l (subst (RowsLead I t) (link_here links l link same b is) d)

  pub is_lone_in : (links : List Link) (l : ℕ) (link : Link) (p : ℕ) → links ≡ (schema_table f t).links → l < length links → link ≡ get_or links l link
      → p < length (rows_of I t) → ¬ (HasLinkedRow I t link p)
      → ((j : ℕ) → j < l → LinkHolds (model_tables f) (facts I) t j)
      → IsLoneIn (model_tables f) I t (record { table = t; link = l; place = p })
  is_lone_in links l link p same b is within n before = record {
    table = refl;
    is_there = subst (λ (m : ℕ). l < m) (sym (many_links f I e t h)) (subst (λ (xs : List Link). l < length xs) same b);
    before = before;
    within = within;
    alone = not_linked f I e t h l p (subst (λ (x : Link). ¬ (HasLinkedRow I t x p)) (link_here links l link same b is) n);
  }

  pub all_lead : (links : List Link) (n : ℕ) → links ≡ (schema_table f t).links → length links ≤ n
      → ((j : ℕ) → j < n → LinkHolds (model_tables f) (facts I) t j) → AllLead (model_tables f) I t
  all_lead links n same b each l there =
      let many = many_links f I e t h in
      let here : l < length (schema_table f t).links = omega (arith, there, many) in
      let also : l < length links = subst (λ (xs : List Link). l < length xs) (sym same) here in
      each l (omega (arith, also, b))

-- ---- the first of all tables

pub is_broken_key : (schema : List Table) (I : List TableRows) (t : ℕ) (b : BrokenKey) → t < length I
    → ((u : ℕ) → u < t → AllIn schema I u) → IsBrokenIn schema I t b → IsBrokenKey schema I b
is_broken_key schema I t b h before is =
    let e : b.table ≡ t = is.table in
    let there : b.table < length I = omega (arith, h, e) in
    let broken : Break schema (facts I) (fact_at I b.table b.left) (fact_at I b.table b.right) (determination_at schema b.table b.key) b.column =
    subst (λ (u : ℕ). Break schema (facts I) (fact_at I u b.left) (fact_at I u b.right) (determination_at schema u b.key) b.column) (sym e) is.break in
    record {
      first = record {
        is_there = subst (λ (u : ℕ). HasDetermination schema u b.key) (sym e) is.is_there;
        fails = break_fails schema (facts I) b.table b.key b.column (fact_at I b.table b.left) (fact_at I b.table b.right) refl broken;
        before = λ u k there less. elim less [
          | inl l ↦ before u (omega (arith, l, e)) k there
          | inr w ↦ subst (λ (x : ℕ). DeterminationHolds schema (facts I) x k) (sym (w.0 ∙ e)) (is.before k w.1)
        ];
      };
      table = there;
      in_order = is.in_order;
      within = subst (λ (u : ℕ). b.right < length (rows_of I u)) (sym e) is.within;
      break = broken;
    }

pub is_lone_row : (schema : List Table) (I : List TableRows) (t : ℕ) (r : LoneRow) → t < length I
    → ((u : ℕ) → u < t → AllLead schema I u) → IsLoneIn schema I t r → IsLoneRow schema I r
is_lone_row schema I t r h before is =
    let e : r.table ≡ t = is.table in
    let within : r.place < length (rows_of I r.table) = subst (λ (u : ℕ). r.place < length (rows_of I u)) (sym e) is.within in
    let alone : ¬ (HasLinked (facts I) (link_at schema r.table r.link) (fact_at I r.table r.place)) =
    subst (λ (u : ℕ). ¬ (HasLinked (facts I) (link_at schema u r.link) (fact_at I u r.place))) (sym e) is.alone in
    record {
      first = record {
        is_there = subst (λ (u : ℕ). HasLink schema u r.link) (sym e) is.is_there;
        fails = alone_fails schema I r.table r.link r.place within alone;
        before = λ u l there less. elim less [
          | inl k ↦ before u (omega (arith, k, e)) l there
          | inr w ↦ subst (λ (x : ℕ). LinkHolds schema (facts I) x l) (sym (w.0 ∙ e)) (is.before l w.1)
        ];
      };
      table = omega (arith, h, e);
      within = within;
      alone = alone;
    }

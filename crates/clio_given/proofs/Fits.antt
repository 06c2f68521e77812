-- What was read fits the tables of the schema.
use Rattle.std.proofs.Common.{◌≡◌, ◌∙◌, ℕ, ◌+◌, ◌*◌, ◌-◌, ◌<◌, ◌≤◌, List, [], ◌∷◌, ◌++◌, inl, inr, refl, sym, ap, subst, arith, length, Ok, Err}
use Rattle.std.specs.Prelude.{map}
use Rattle.std.proofs.lemmas.Bool.Decides.{nat_tests}
use Rattle.std.proofs.lemmas.List.{length-map, length-take-le, map-append}
use Rattle.dx_base.specs.Members.{◌∈◌, here, there, Each}
use Rattle.dx_base.proofs.Members.{from_append}
use Rattle.dx_model.specs.declared.values.Value.{Value}
use Rattle.dx_model.specs.declared.facts.Fact.{Fact}
use Rattle.dx_instance.specs.Cells.{NumberTable}
use Rattle.dx_instance.specs.Numbers.{Extends}
use Rattle.dx_instance.specs.Shown.{NumbersBelow, NumberRowsFit, shown_row, shown_tables}
use Rattle.dx_instance.specs.Stored.{IsSorting, TableRows, facts, widths}
use Rattle.dx_instance.proofs.StoredFacts.{sorting_facts}
use Rattle.dx_schema.specs.Forest.{Forest}
use Rattle.dx_schema.specs.Tables.{TableOf, schema_widths, schema_table, tables_of}
use Rattle.dx_schema.proofs.Whole.{all_widths, widths_more}
use Rattle.dx_stages.specs.declared.stop.Stop.{Stop}
use Rattle.dx_stages.specs.declared.stop.Stop.TheVariants as stops
use Rattle.dx_stages.specs.Running.{Gives}
use Rattle.clio_source.specs.declared.fault.SourceRefusal.{SourceRefusal}
use Rattle.clio_source.specs.declared.fault.SourceRefusal.TheVariants as refusals
use Rattle.clio_source.specs.Source.{IsStored, ReadState, as_facts, fact_cells}
use Rattle.clio_source.proofs.Fits.{cells_of_rows, shown_widths}
use Rattle.clio_source.proofs.Numbers.{facts_of_one, still_fit}
use Rattle.clio_source.specs.declared.reading.Reading.{Reading}
use Rattle.clio_given.specs.Given.{SayRows, given_name, given_loading, none_read, too_many_given_cells, with_given_facts}
use Rattle.clio_given.specs.Reading.{GivenIsNotRead, GivenReadFits, read_of}

abbrev width_of : NumberTable → ℕ
width_of t = t.width

-- ---- nothing was read

pub fit_start : (f : Forest) (r : Reading) → r.tables.items ≡ [] → GivenReadFits f 0 r
fit_start f r e = record {
  widths = ap (map width_of) e;
  below = λ t m. elim (subst (λ (ts : List NumberTable). t ∈ ts) e m) [ ];
}

pub read_start : (r : Reading) (bytes : ℕ) → r.tables.items ≡ [] → r.bytes_left ≡ bytes → r.cells_left ≡ (none_read bytes).cells_left → read_of r ≡ none_read bytes
read_start r bytes e b c =
    let none : facts (shown_tables r.symbols r.tables.items) ≡ [] = ap (λ (ts : List NumberTable). facts (shown_tables r.symbols ts)) e in
    λ i. record { facts = none i; bytes_left = b i; cells_left = c i }

-- ---- a table more

many_tables : (f : Forest) (n : ℕ) (r : Reading) → n ≤ length (tables_of f) → GivenReadFits f n r → length r.tables.items ≡ n
many_tables f n r h fit =
    sym (length-map r.tables.items width_of)
    ∙ (ap length fit.widths ∙ length-take-le n (schema_widths f) (omega (arith, h, length-map (tables_of f) (λ (t : TableOf). length t.columns))))

module _ (f : Forest) (n : ℕ) (before after : Reading) (t : NumberTable) (fit : GivenReadFits f n before) (h : n < length (tables_of f))
    (grows : Extends before.symbols after.symbols) (e : after.tables.items ≡ before.tables.items ++ t ∷ []) where
  pub fit_more : t.width ≡ length (schema_table f n).columns → 1 ≤ t.width → Each t.rows (NumbersBelow (length after.symbols)) → GivenReadFits f (n + 1) after
  fit_more wide some below = record {
    widths = widths_more f (map width_of before.tables.items) (map width_of after.tables.items) n t.width h wide fit.widths
        (ap (map width_of) e ∙ map-append width_of before.tables.items (t ∷ []));
    below = each;
  }
    where
      last : (u : NumberTable) → u ∈ (t ∷ []) → NumberRowsFit (length after.symbols) u
      last u (here d) = subst (NumberRowsFit (length after.symbols)) d (record { columns = some; within = below })
      last u (there m) = elim m [ ]

      each : Each after.tables.items (NumberRowsFit (length after.symbols))
      each u m = elim (from_append before.tables.items (subst (λ (ts : List NumberTable). u ∈ ts) e m)) [
        | inl a ↦ still_fit before.symbols after.symbols u grows (fit.below u a)
        | inr b ↦ last u b
      ]

  -- its rows are facts after the others
  facts_more : facts (shown_tables after.symbols after.tables.items)
      ≡ facts (shown_tables before.symbols before.tables.items) ++ as_facts n (map (shown_row after.symbols) t.rows)
  facts_more =
      facts_of_one before.symbols after.symbols before.tables.items after.tables.items t n grows fit.below e
      (many_tables f n before (omega (arith, h)) fit)

-- ---- what is read of bytes

pub not_loaded : (f : Forest) (table : ℕ) (q : ReadState) (bytes name : List ℕ) (e : Stop SourceRefusal) → name ≡ given_name (schema_table f table).name
    → GivenIsNotRead f table bytes name e → Gives (given_loading f table) (q, bytes) (Err e)
not_loaded f table q bytes name (stops.Refused e) n h = λ world. inl (h.0, h.1, h.2 ∙ ap (λ (k : List ℕ). refusals.Rows k h.0) n)
not_loaded f table q bytes name (stops.Failed k) n h = h
not_loaded f table q bytes name stops.Memory n h = tt

-- before its cells are counted
abbrev with_bytes : ReadState → List ℕ → ReadState
with_bytes q bytes = record { facts = q.facts; bytes_left = q.bytes_left - length bytes; cells_left = q.cells_left }

abbrev with_cells : Forest → ReadState × List Fact → ReadState
with_cells f q = record { facts = q.0.facts ++ q.1; bytes_left = q.0.bytes_left; cells_left = q.0.cells_left - fact_cells f q.1 }

too_many : (f : Forest) (q : ReadState × List Fact) → q.0.cells_left < fact_cells f q.1 → with_given_facts f q ≡ Err too_many_given_cells
too_many f q h = grind (arith, nat_tests, h)

within : (f : Forest) (q : ReadState × List Fact) → fact_cells f q.1 ≤ q.0.cells_left → with_given_facts f q ≡ Ok (with_cells f q)
within f q h = grind (arith, nat_tests, h)

-- rows have as many cells as their facts
pub cells_are : (f : Forest) (table many width : ℕ) (S : List Value) (t : NumberTable) → many ≡ length t.rows → width ≡ length (schema_table f table).columns
    → many * width ≡ fact_cells f (as_facts table (map (shown_row S) t.rows))
cells_are f table many width S t m w =
    let rows = map (shown_row S) t.rows in
    let shown : many ≡ length rows = m ∙ sym (length-map t.rows (shown_row S)) in
    ap (λ (n : ℕ). n * width) shown ∙ (ap (λ (n : ℕ). length rows * n) w ∙ sym (cells_of_rows f table rows))

pub no_cells_left : (f : Forest) (table : ℕ) (q : ReadState) (bytes : List ℕ) (rows : List (List Value)) → SayRows f table bytes rows
    → q.cells_left < fact_cells f (as_facts table rows) → Gives (given_loading f table) (q, bytes) (Err (stops.Refused too_many_given_cells))
no_cells_left f table q bytes rows says h =
    λ world. inr ((with_bytes q bytes, as_facts table rows), (rows, says, refl), too_many f (with_bytes q bytes, as_facts table rows) h)

pub loaded : (f : Forest) (n : ℕ) (before after : Reading) (t : NumberTable) (bytes : List ℕ) → GivenReadFits f n before → n < length (tables_of f)
    → Extends before.symbols after.symbols → after.tables.items ≡ before.tables.items ++ t ∷ [] → SayRows f n bytes (map (shown_row after.symbols) t.rows)
    → fact_cells f (as_facts n (map (shown_row after.symbols) t.rows)) ≤ before.cells_left → after.bytes_left ≡ before.bytes_left - length bytes
    → after.cells_left ≡ before.cells_left - fact_cells f (as_facts n (map (shown_row after.symbols) t.rows))
    → Gives (given_loading f n) (read_of before, bytes) (Ok (read_of after))
loaded f n before after t bytes fit h grows e says few b c =
    let rows = map (shown_row after.symbols) t.rows in
    let q = read_of before in
    let more = facts_more f n before after t fit h grows e in
    let same : with_cells f (with_bytes q bytes, as_facts n rows) ≡ read_of after = λ i. record { facts = sym more i; bytes_left = sym b i; cells_left = sym c i } in
    λ world. ((with_bytes q bytes, as_facts n rows), (rows, says, refl), within f (with_bytes q bytes, as_facts n rows) few ∙ ap (λ (r : ReadState). Ok r) same)

-- ---- the instance

pub is_stored : (f : Forest) (r : Reading) (I : List TableRows) → GivenReadFits f (length (tables_of f)) r → IsSorting (shown_tables r.symbols r.tables.items) I
    → IsStored f (read_of r).facts I
is_stored f r I fit s = record {
  widths_are = s.widths_stay ∙ (shown_widths r.symbols r.tables.items ∙ all_widths f (map width_of r.tables.items) (length (tables_of f)) (omega arith) fit.widths);
  ascend = s.ascend;
  exact = sorting_facts (shown_tables r.symbols r.tables.items) I s;
}

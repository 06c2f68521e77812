-- What was read fits the tables of the schema.
use Rattle.std.proofs.Common.{◌≡◌, ℕ, suc, ◌+◌, ◌-◌, ◌*◌, ◌<◌, ◌≤◌, List, [], ◌∷◌, ◌++◌, length, map, take, get_or, slice_get, Some, refl, sym, ◌∙◌, ap, subst, arith, inl, inr, append_assoc}
use Rattle.std.proofs.Math.Nat.{suc-mul, zero-mul}
use Rattle.std.proofs.lemmas.Bool.{cases_lt}
use Rattle.std.proofs.lemmas.List.{get_or-append_right, get_or-map, get_or-take, get_or_default, get_or_past, length-map, length-take-le, map-append, take_all}
use Rattle.std.proofs.lemmas.Option.{slice_get-get_or}
use Rattle.std.proofs.lemmas.List.Sums.{sum_by-cons, sum_by_more, sum_by_more_le}
use Rattle.dx_base.specs.Members.{◌∈◌, here, there, Each}
use Rattle.dx_base.proofs.Members.{from_append, in_at, same_equal, same_members, same_sym, same_trans}
use Rattle.dx_model.specs.declared.values.Value.{Value}
use Rattle.dx_model.specs.declared.facts.Fact.{Fact}
use Rattle.dx_model.specs.Tables.{IsInstance, Table}
use Rattle.dx_instance.specs.Cells.{NumberTable}
use Rattle.dx_instance.specs.Numbers.{Extends}
use Rattle.dx_instance.specs.Shown.{NumbersBelow, NumberRowsFit, numbers_of_table, shown_tables}
use Rattle.dx_instance.specs.Stored.{IsSorting, TableRows, facts, widths}
use Rattle.dx_instance.proofs.StoredFacts.{sorting_facts}
use Rattle.dx_schema.specs.Forest.{Forest}
use Rattle.dx_schema.specs.Tables.{TableOf, AreTables, as_numbers, model_tables, schema_widths, schema_table, tables_of, no_table}
use Rattle.dx_schema.proofs.Whole.{widths_more}
use Rattle.clio_source.specs.declared.reading.Reading.{Reading}
use Rattle.dx_used.specs.Used.{AgreeOnUsed, Marks, blanked, fact_blanked, marks_at}
use Rattle.dx_used.proofs.Blanking.{agree_append, agree_same, blanked_twice}
use Rattle.clio_source.specs.Source.{ReadState, as_facts, at_start, fact_cells, source_cells}
use Rattle.clio_source.specs.Fitting.{AddsEmpty, AddsFacts, CanTake, Holds, ReadFits, rows_shown}
use Rattle.clio_source.proofs.Numbers.{facts_of_one, facts_with_empty, still_fit}

abbrev width_of : NumberTable → ℕ
width_of t = t.width

-- ---- nothing was read

pub fit_start : (f : Forest) (r : Reading) → r.tables.items ≡ [] → r.cells_left ≡ source_cells → ReadFits f 0 r
fit_start f r e c = record {
  widths = ap (map width_of) e;
  below = λ t m. elim (subst (λ ts. t ∈ ts) e m) [ ];
  few = omega (arith, c);
}

pub holds_start : (used : Marks) (r : Reading) → r.tables.items ≡ [] → r.bytes_left ≡ at_start.bytes_left → r.cells_left ≡ at_start.cells_left → Holds used r at_start
holds_start used r e b c = record { agree = agree_same used (same_equal (sym (ap (λ ts. facts (shown_tables r.symbols ts)) e))); bytes = b; cells = c }

-- ---- a table more

pub many_tables : (f : Forest) (n : ℕ) (r : Reading) → n ≤ length (tables_of f) → ReadFits f n r → length r.tables.items ≡ n
many_tables f n r le fit =
    sym (length-map r.tables.items width_of) ∙ ap length fit.widths ∙ length-take-le n (schema_widths f) (omega (arith, le, length-map (tables_of f) (λ (t : TableOf). length t.columns)))

pub fit_more : (f : Forest) (n : ℕ) (before after : Reading) (t : NumberTable) → ReadFits f n before → n < length (tables_of f) → Extends before.symbols after.symbols
    → after.tables.items ≡ before.tables.items ++ t ∷ [] → t.width ≡ length (schema_table f n).columns → 1 ≤ t.width → Each t.rows (NumbersBelow (length after.symbols)) → after.cells_left ≤ before.cells_left → ReadFits f (n + 1) after
fit_more f n before after t fit h x e wide some below cells = record {
  widths = widths_more f (map width_of before.tables.items) (map width_of after.tables.items) n t.width h wide fit.widths (ap (map width_of) e ∙ map-append width_of before.tables.items (t ∷ []));
  below = each;
  few = omega (arith, fit.few, cells);
}
  where
    last : (u : NumberTable) → u ∈ (t ∷ []) → NumberRowsFit (length after.symbols) u
    last u (here d) = subst (NumberRowsFit (length after.symbols)) d (record { columns = some; within = below })
    last u (there m) = elim m [ ]

    each : Each after.tables.items (NumberRowsFit (length after.symbols))
    each u m = elim (from_append before.tables.items (subst (λ ts. u ∈ ts) e m)) [
      | inl a ↦ still_fit before.symbols after.symbols u x (fit.below u a)
      | inr b ↦ last u b
    ]

-- rows that are blank in the columns that are not used agree with the whole rows
facts_blanked : (used : Marks) (n : ℕ) (whole : List (List Value)) → map (fact_blanked used) (as_facts n whole) ≡ map (fact_blanked used) (as_facts n (map (blanked (marks_at used n)) whole))
facts_blanked used n [] = refl
facts_blanked used n (row ∷ whole) =
    let same = sym (blanked_twice (marks_at used n) row) in
    let rest = facts_blanked used n whole in
    (λ i. record { table = n; row = same i } ∷ rest i)

rows_agree : (used : Marks) (n : ℕ) (whole rows : List (List Value)) → rows ≡ map (blanked (marks_at used n)) whole → AgreeOnUsed used (as_facts n whole) (as_facts n rows)
rows_agree used n whole rows e = same_equal (facts_blanked used n whole ∙ ap (λ rs. map (fact_blanked used) (as_facts n rs)) (sym e))

-- its rows agree with the facts that were read
pub holds_more : (used : Marks) (f : Forest) (n : ℕ) (before after : Reading) (t : NumberTable) (whole : List (List Value)) (q : ReadState) → ReadFits f n before → Holds used before q → n < length (tables_of f) → Extends before.symbols after.symbols
    → after.tables.items ≡ before.tables.items ++ t ∷ [] → rows_shown after.symbols t ≡ map (blanked (marks_at used n)) whole → AgreeOnUsed used (q.facts ++ as_facts n whole) (facts (shown_tables after.symbols after.tables.items))
holds_more used f n before after t whole q fit h lt x e rows =
    let old = facts (shown_tables before.symbols before.tables.items) in
    let more = as_facts n (rows_shown after.symbols t) in
    same_trans (agree_append used q.facts old (as_facts n whole) more h.agree (rows_agree used n whole (rows_shown after.symbols t) rows))
    (agree_same used (same_equal (sym (facts_of_one before.symbols after.symbols before.tables.items after.tables.items t n x fit.below e (many_tables f n before (omega arith) fit)))))

-- ---- the tables of a root and its inner sets

pub empty_more : (f : Forest) (n width : ℕ) (old now after : List NumberTable) (t : NumberTable) → AddsEmpty f n old now → n < length (tables_of f) → width ≡ length (schema_table f n).columns → 1 ≤ width
    → t ≡ record { width = width; rows = [] } → after ≡ now ++ t ∷ [] → AddsEmpty f (n + 1) old after
empty_more f n width old now after t a lt wide some is e = record {
  more = a.more ++ t ∷ [];
  is = e ∙ ap (λ ts. ts ++ t ∷ []) a.is ∙ append_assoc old a.more (t ∷ []);
  widths = widths_more f (map width_of now) (map width_of after) n t.width lt (ap width_of is ∙ wide) a.widths (ap (map width_of) e ∙ map-append width_of now (t ∷ []));
  some = λ u m. elim (from_append a.more m) [ inl old ↦ a.some u old | inr new ↦ last_some u new ];
  empty = λ u m. elim (from_append a.more m) [ inl old ↦ a.empty u old | inr new ↦ last_empty u new ];
}
  where
    last_some : (u : NumberTable) → u ∈ (t ∷ []) → 1 ≤ u.width
    last_some u (here d) = let w : u.width ≡ width = sym (ap width_of d) ∙ ap width_of is in omega (arith, w, some)
    last_some u (there m) = elim m [ ]

    last_empty : (u : NumberTable) → u ∈ (t ∷ []) → u.rows ≡ []
    last_empty u (here d) = sym (ap (λ (v : NumberTable). v.rows) d) ∙ ap (λ (v : NumberTable). v.rows) is
    last_empty u (there m) = elim m [ ]

abbrev no_numbers : NumberTable
no_numbers = record { width = 0; rows = [] }

abbrev no_width : Table
no_width = record { width = 0; determinations = []; links = []; optional = [] }

-- they can take the facts of a document
pub can_take : (f : Forest) (first last : ℕ) (old new : List NumberTable) (said : List Fact) → AddsEmpty f last old new → length old ≡ first → last ≤ length (tables_of f) → IsInstance (model_tables f) said
    → Each said (λ fact. (first ≤ fact.table) × (fact.table < last)) → CanTake new first said
can_take f first last old new said a many le fits between = record { within = λ x m. (let b = between x m in (omega (arith, b), omega (arith, b, length_new))); wide = wide; empty = empty }
  where
    length_new : length new ≡ last
    length_new = sym (length-map new width_of) ∙ ap length a.widths ∙ length-take-le last (schema_widths f) (omega (arith, le, length-map (tables_of f) (λ (t : TableOf). length t.columns)))

    wide : Each said (λ fact. length fact.row ≡ (numbers_of_table new fact.table).width)
    wide x m =
        let b = between x m in
        let in_f : x.table < length (tables_of f) = omega (arith, b, le) in
        let in_new : x.table < length new = omega (arith, b, length_new) in
        (fits x m).width
        ∙ ap (λ (t : Table). t.width) (get_or-map as_numbers (tables_of f) x.table no_table no_width in_f)
        ∙ sym (get_or-map (λ (t : TableOf). length t.columns) (tables_of f) x.table no_table 0 in_f)
        ∙ sym (get_or-take last (schema_widths f) x.table 0 b.1)
        ∙ ap (λ (ws : List ℕ). get_or ws x.table 0) (sym a.widths)
        ∙ get_or-map width_of new x.table no_numbers 0 in_new

    empty : (t : ℕ) → first ≤ t → (numbers_of_table new t).rows ≡ []
    empty t from =
        let behind : get_or new t no_numbers ≡ get_or a.more (t - first) no_numbers = ap (λ ts. get_or ts t no_numbers) a.is ∙ get_or-append_right old a.more first t no_numbers many from in
        let rows : (get_or a.more (t - first) no_numbers).rows ≡ [] = elim (cases_lt (t - first) (length a.more)) [
          | inl lt ↦ a.empty _ (in_at a.more (t - first) no_numbers lt)
          | inr past ↦ ap (λ (u : NumberTable). u.rows) (get_or_past a.more (t - first) no_numbers past)
        ] in
        ap (λ (u : NumberTable). u.rows) behind ∙ rows

pub fit_empty : (S : List Value) (f : Forest) (last : ℕ) (old new : List NumberTable) → AddsEmpty f last old new → Each old (NumberRowsFit (length S)) → Each new (NumberRowsFit (length S))
fit_empty S f last old new a b u m = elim (from_append old (subst (λ ts. u ∈ ts) a.is m)) [
  | inl o ↦ b u o
  | inr n ↦ record { columns = a.some u n; within = λ r i. elim (subst (λ rs. r ∈ rs) (a.empty u n) i) [ ] }
]

-- the facts of a document are read whole
pub holds_document : (used : Marks) (f : Forest) (last : ℕ) (before after : Reading) (between : List NumberTable) (said : List Fact) (q : ReadState) → Holds used before q → AddsEmpty f last before.tables.items between
    → AddsFacts before.symbols after.symbols between after.tables.items said → AgreeOnUsed used (q.facts ++ said) (facts (shown_tables after.symbols after.tables.items))
holds_document used f last before after between said q h a p =
    let same : facts (shown_tables before.symbols between) ≡ facts (shown_tables before.symbols before.tables.items) =
    ap (λ ts. facts (shown_tables before.symbols ts)) a.is ∙ facts_with_empty before.symbols before.tables.items a.more a.empty in
    let old = facts (shown_tables before.symbols between) in
    let agree : AgreeOnUsed used q.facts old = same_trans h.agree (agree_same used (same_equal (sym same))) in
    same_trans (agree_append used q.facts old said said agree (agree_same used (same_members said))) (agree_same used (same_sym p.shown))

-- ---- cells

pub cells_of_rows : (f : Forest) (root : ℕ) (rows : List (List Value)) → fact_cells f (as_facts root rows) ≡ length rows * length (schema_table f root).columns
cells_of_rows f root [] = sym (zero-mul (length (schema_table f root).columns))
cells_of_rows f root (r ∷ rows) =
    let width = length (schema_table f root).columns in
    let e : width + length rows * width ≡ suc (length rows) * width = omega (arith, suc-mul (length rows) width) in
    sum_by-cons (λ (fact : Fact). length (schema_table f fact.table).columns) (record { table = root; row = r }) (as_facts root rows) ∙ ap (λ n. width + n) (cells_of_rows f root rows) ∙ e

-- each fact has a cell
pub few_facts : (f : Forest) (said : List Fact) → AreTables (tables_of f) → IsInstance (model_tables f) said → length said ≤ fact_cells f said
few_facts f [] tables fits = omega arith
few_facts f (x ∷ said) tables fits =
    let h = few_facts f said tables (λ y m. fits y (there m)) in
    let lt : x.table < length (tables_of f) = omega (arith, (fits x (here refl)).table, length-map (tables_of f) as_numbers) in
    let some = (tables.each_table (schema_table f x.table) (in_at (tables_of f) x.table _ lt)).some_column in
    omega (arith, h, some, sum_by-cons (λ (fact : Fact). length (schema_table f fact.table).columns) x said)

-- a fact is of a table of the schema
pub table_in : (f : Forest) (said : List Fact) (k : ℕ) (fact : Fact) → IsInstance (model_tables f) said → k < length said → fact ≡ get_or said k fact → fact.table < length (tables_of f)
table_in f said k fact fits lt at =
    let h = (fits fact (subst (λ (x : Fact). x ∈ said) (sym at) (in_at said k fact lt))).table in
    omega (arith, h, length-map (tables_of f) as_numbers)

abbrev cells_of : Forest → Fact → ℕ
cells_of f fact = length (schema_table f fact.table).columns

-- a fact stands at each place
pub fact_in : (said : List Fact) (k : ℕ) → k < length said → (fact : Fact) × (slice_get said k ≡ Some fact) × (fact ≡ get_or said k fact)
fact_in said k lt =
    let blank : Fact = record { table = 0; row = [] } in
    (get_or said k blank, slice_get-get_or said k blank lt, get_or_default said k blank (get_or said k blank) lt)

pub cells_more : (f : Forest) (left rest next width : ℕ) (said : List Fact) (k : ℕ) (fact : Fact) → rest + fact_cells f (take k said) ≡ left → k < length said → fact ≡ get_or said k fact → width ≡ length (schema_table f fact.table).columns
    → next + width ≡ rest → next + fact_cells f (take (k + 1) said) ≡ left
cells_more f left rest next width said k fact so_far lt at is less =
    let h = sum_by_more (cells_of f) said k fact lt in
    let same : cells_of f (get_or said k fact) ≡ width = ap (cells_of f) (sym at) ∙ sym is in
    omega (arith, so_far, h, same, less)

pub cells_past : (f : Forest) (left rest width : ℕ) (said : List Fact) (k : ℕ) (fact : Fact) → rest + fact_cells f (take k said) ≡ left → k < length said → fact ≡ get_or said k fact → width ≡ length (schema_table f fact.table).columns
    → rest < width → left < fact_cells f said
cells_past f left rest width said k fact so_far lt at is past =
    let h = sum_by_more_le (cells_of f) said k fact lt in
    let same : cells_of f (get_or said k fact) ≡ width = ap (cells_of f) (sym at) ∙ sym is in
    omega (arith, so_far, h, same, past)

-- ---- the instance

pub few_read : (f : Forest) (r : Reading) → ReadFits f (length (tables_of f)) r → length (tables_of f) ≤ 64 → length r.tables.items ≤ 64
few_read f r fit few = omega (arith, few, many_tables f (length (tables_of f)) r (omega arith) fit)

all_wide : (f : Forest) (r : Reading) → ReadFits f (length (tables_of f)) r → map width_of r.tables.items ≡ schema_widths f
all_wide f r fit = fit.widths ∙ take_all (length (tables_of f)) (schema_widths f) (rw (length-map (tables_of f) (λ (t : TableOf). length t.columns)) (omega arith))

pub shown_widths : (S : List Value) (ts : List NumberTable) → widths (shown_tables S ts) ≡ map width_of ts
shown_widths S [] = refl
shown_widths S (t ∷ ts) = ap (λ ws. t.width ∷ ws) (shown_widths S ts)

pub sorted_wide : (f : Forest) (r : Reading) (J : List TableRows) → ReadFits f (length (tables_of f)) r → IsSorting (shown_tables r.symbols r.tables.items) J → widths J ≡ schema_widths f
sorted_wide f r J fit s = s.widths_stay ∙ shown_widths r.symbols r.tables.items ∙ all_wide f r fit

pub sorted_agree : (used : Marks) (r : Reading) (q : ReadState) (J : List TableRows) → Holds used r q → IsSorting (shown_tables r.symbols r.tables.items) J → AgreeOnUsed used q.facts (facts J)
sorted_agree used r q J h s = same_trans h.agree (agree_same used (same_sym (sorting_facts (shown_tables r.symbols r.tables.items) J s)))

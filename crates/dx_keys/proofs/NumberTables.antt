-- Tables of numbers with what determines what in them.
use Rattle.std.proofs.Common.{◌≡◌, ◌∙◌, ℕ, ◌+◌, ◌<◌, List, [], ◌∷◌, ◌++◌, inl, inr, sym, ap, length, map, arith}
use Rattle.std.proofs.lemmas.Bool.{cases_lt}
use Rattle.std.proofs.lemmas.List.{get_or-map, get_or_append_left, get_or_push, length-append, length-map}
use Rattle.dx_model.specs.Tables.{Table as Numbers, table_of}
use Rattle.dx_schema.specs.Forest.{Forest}
use Rattle.dx_schema.specs.Tables.{TableOf, as_numbers, determinations_of, model_tables, schema_table as table_in, tables_of}
use Rattle.dx_instance.specs.Cells.{NumberTable as TableOfNumbers}
use Rattle.dx_instance.specs.Shown.{numbers_of_table, shown}
use Rattle.dx_instance.specs.Stored.{TableRows}
use Rattle.dx_chase.specs.Tables.{ChaseTable}
use Rattle.dx_chase.specs.Rows.{number_table}
use Rattle.dx_keys.specs.Numbers.{TablesWithin, IsNumbered, determination_of}
use Rattle.dx_keys.specs.declared.numbering.Numbering.{Numbering}

-- the determinations of a table of a schema, by its keys and its dependencies
pub determinations_are : (f : Forest) (t : ℕ) → t < length (tables_of f) → determinations_of (table_in f t) ≡ (table_of (model_tables f) t).determinations
determinations_are f t h = sym (ap (λ (x : Numbers). x.determinations) (get_or-map as_numbers (tables_of f) t _ _ h))

-- the first n tables
pub record AreFirst (schema : List Numbers) (rows : List TableOfNumbers) (n : ℕ) (tables : List ChaseTable) : Type 0 where
  pub many : length tables ≡ n
  pub rows_are : (t : ℕ) → t < n → (number_table tables t).rows ≡ (numbers_of_table rows t).rows
  pub determined : (t : ℕ) → t < n → map determination_of (number_table tables t).determinations ≡ (table_of schema t).determinations

pub first_more : (schema : List Numbers) (rows : List TableOfNumbers) (n : ℕ) (old new : List ChaseTable) (x : ChaseTable) → AreFirst schema rows n old → new ≡ old ++ x ∷ []
    → x.rows ≡ (numbers_of_table rows n).rows → map determination_of x.determinations ≡ (table_of schema n).determinations → AreFirst schema rows (n + 1) new
first_more schema rows n old new x F e r d = rw e (record {
  many = (let q = length-append old (x ∷ []) in let m = F.many in omega arith);
  rows_are = λ t h. elim (cases_lt t n) [
    | inl l ↦ ap (λ (z : ChaseTable). z.rows) (before t l) ∙ F.rows_are t l
    | inr l ↦ let q : n ≡ t = omega arith in ap (λ (z : ChaseTable). z.rows) (last t q) ∙ (r ∙ ap (λ k. (numbers_of_table rows k).rows) q)
  ];
  determined = λ t h. elim (cases_lt t n) [
    | inl l ↦ ap (λ (z : ChaseTable). map determination_of z.determinations) (before t l) ∙ F.determined t l
    | inr l ↦ let q : n ≡ t = omega arith in ap (λ (z : ChaseTable). map determination_of z.determinations) (last t q) ∙ (d ∙ ap (λ k. (table_of schema k).determinations) q)
  ];
})
  where
    before : (t : ℕ) → t < n → number_table (old ++ x ∷ []) t ≡ number_table old t
    before t l = get_or_append_left old (x ∷ []) _ t (let m = F.many in omega arith)

    last : (t : ℕ) → n ≡ t → number_table (old ++ x ∷ []) t ≡ x
    last t q = get_or_push old x _ t (F.many ∙ q)

pub first_all : (schema : List Numbers) (rows : List TableOfNumbers) (n : ℕ) (tables : List ChaseTable) → AreFirst schema rows n tables → n ≡ length rows → TablesWithin schema rows tables
first_all schema rows n tables F e = record {
  many = F.many ∙ e;
  rows_are = λ t h. F.rows_are t (let m = F.many in omega arith);
  determined = λ t h. F.determined t (let m = F.many in omega arith);
}

-- an instance under numbers has as many tables as its schema
pub many_tables : (f : Forest) (I : List TableRows) (n : Numbering) → IsNumbered f I n → length n.tables.items ≡ length (tables_of f)
many_tables f I n M =
    let a = ap length M.numbering.is_shown in
    let b = ap length M.widths_are in
    let c = length-map n.tables.items (shown n.symbols) in
    let d = length-map I (λ (t : TableRows). t.width) in
    let e = length-map (tables_of f) (λ (t : TableOf). length t.columns) in
    omega arith

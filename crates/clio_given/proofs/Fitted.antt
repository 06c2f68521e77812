-- What given files say is an instance of the schema.
use Rattle.std.proofs.Common.{◌≡◌, ◌∙◌, ℕ, ◌<◌, List, [], ◌∷◌, ◌++◌, inl, inr, refl, sym, ap, subst, arith, length}
use Rattle.std.specs.List.{AllZip, range_with_len}
use Rattle.std.proofs.lemmas.List.{get_or-map, length-map}
use Rattle.dx_base.specs.Members.{◌∈◌, here, there, Each}
use Rattle.dx_base.proofs.Lists.{zip_long, from_zip}
use Rattle.dx_base.proofs.Members.{from_append, from_map}
use Rattle.dx_base.proofs.Ranges.{from_range}
use Rattle.dx_model.specs.declared.facts.Fact.{Fact}
use Rattle.dx_model.specs.declared.values.Value.{Value}
use Rattle.dx_model.specs.Tables.{FactFits, IsInstance, Table}
use Rattle.dx_schema.specs.Forest.{Forest}
use Rattle.dx_schema.specs.Tables.{as_numbers, model_tables, schema_table, tables_of}
use Rattle.dx_csv.specs.Table.{table_records}
use Rattle.dx_stages.specs.Worlds.{World}
use Rattle.dx_stages.specs.Stages.{each}
use Rattle.clio_source.specs.Source.{ReadState, as_facts}
use Rattle.clio_given.specs.Given.{IsValueOf, SayRows, none_read, given_reading}
use Rattle.clio_given.specs.Laws.{GivenFits}
use Rattle.clio_given.proofs.Decided.{counted}
use Rattle.clio_given.proofs.Parsed.{table_wide}

-- rows are as wide as their table
rows_wide : (f : Forest) (table : ℕ) (bytes : List ℕ) (rows : List (List Value)) → SayRows f table bytes rows → Each rows (λ row. length row ≡ length (schema_table f table).columns)
rows_wide f table bytes rows says row m =
    let x = from_zip (AllZip IsValueOf) says.0 rows row says.2 m in
    sym (zip_long IsValueOf x.0 row x.2) ∙ table_wide (table_records bytes) (schema_table f table).columns says.0 says.1 x.0 x.1

rows_fit : (f : Forest) (table : ℕ) (rows : List (List Value)) → table < length (tables_of f) → Each rows (λ row. length row ≡ length (schema_table f table).columns)
    → IsInstance (model_tables f) (as_facts table rows)
rows_fit f table rows h wide x m =
    let k = from_map (λ (row : List Value). let u : Fact = record { table = table; row = row } in u) rows m in
    let many : length (model_tables f) ≡ length (tables_of f) = length-map (tables_of f) as_numbers in
    subst (FactFits (model_tables f)) k.2 (record {
      table = omega (arith, h, many);
      width = wide k.0 k.1
          ∙ sym (ap (λ (t : Table). t.width) (get_or-map as_numbers (tables_of f) table _ (record { width = 0; determinations = []; links = []; optional = [] }) h));
    })

abbrev Fits : Forest → ReadState → Type 0
Fits f r = IsInstance (model_tables f) r.facts

one_fits : (f : Forest) (table : ℕ) (c : World) (r s : ReadState) → table < length (tables_of f) → Fits f r → (given_reading f table).passes c r s → Fits f s
one_fits f table c r s within of (p, (bytes, found, p_is), (q, (rows, says, q_is), s_is)) =
    let before : q.0.facts ≡ r.facts = ap (λ (v : ReadState × List Fact). v.0.facts) q_is ∙ ap (λ (v : ReadState × List ℕ). v.0.facts) p_is in
    let after : s.facts ≡ r.facts ++ as_facts table rows =
    counted f q s s_is ∙ (ap (λ (fs : List Fact). fs ++ q.1) before ∙ ap (λ (v : ReadState × List Fact). r.facts ++ v.1) q_is) in
    λ x m. elim (from_append r.facts (subst (λ (fs : List Fact). x ∈ fs) after m)) [
      | inl old ↦ of x old
      | inr new ↦ rows_fit f table rows within (rows_wide f table p.1 rows says) x new
    ]

all_fit : (f : Forest) (us : List ℕ) (c : World) (r s : ReadState) → Each us (λ u. u < length (tables_of f)) → Fits f r → (each (given_reading f) us).passes c r s → Fits f s
all_fit f [] c r s are of p = subst (λ (v : ReadState). Fits f v) (sym p) of
all_fit f (u ∷ us) c r s are of (b, one, rest) = all_fit f us c b s (λ v m. are v (there m)) (one_fits f u c r b (are u (here refl)) of one) rest

pub given_fits : GivenFits
given_fits c w I (r, files, stored) = λ x m.
    all_fit w.schema (range_with_len 0 (length (tables_of w.schema))) c (none_read w.bytes_left) r
    (λ u k. let h = (from_range 0 (length (tables_of w.schema)) u k).1 in omega (arith, h)) (λ y k. elim k [ ]) files x (stored.exact.0 x m)

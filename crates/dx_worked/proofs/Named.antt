-- Of three employees those are read who have a name.
use Rattle.std.proofs.Common.{◌≡◌, ◌-◌, ℕ, zero, suc, List, [], ◌∷◌, length, refl, sym, ap, subst, arith, Some}
use Rattle.std.specs.Prelude.{codes, All}
use Rattle.std.specs.Cmp.Lexicographic.{nat_list_cmp_total}
use Rattle.std.specs.declared.cmp.Ordering.TheVariants.{Less}
use Rattle.std.specs.FinMap.{from_entries, get-insert}
use Rattle.std.specs.Str.{IsAscii}
use Rattle.std.proofs.lemmas.Str.{IsUtf8-from_ascii}
use Rattle.csv.specs.Machine.{next_record}
use Rattle.csv.specs.Reading.{records_from, strip_bom}
use Rattle.csv.specs.Records.{AllText}
use Rattle.dx_base.specs.Members.{◌∈◌, here, there}
use Rattle.dx_base.specs.Texts.{Text}
use Rattle.dx_model.specs.declared.facts.Fact.{Fact}
use Rattle.dx_model.specs.declared.values.Value.{Value}
use Rattle.dx_model.specs.declared.values.Value.TheVariants.{Const}
use Rattle.dx_model.specs.Values.{RowsAscend, row_cmp}
use Rattle.dx_instance.specs.Stored.{TableRows, rows_of}
use Rattle.dx_csv.specs.Table.{AreTableRecords, IsWholeRecord, table_records}
use Rattle.dx_funcs.specs.Shipped.{shipped_passes}
use Rattle.clio_source.specs.Source.{ReadState, SaysSourceFacts, as_facts, at_start, data_bytes, flat, reading, source_cells, source_stages}
use Rattle.clio_source.proofs.Decided.{source_one}
use Rattle.clio_steps.specs.Steps.{MappingAndRows, wanted}
use Rattle.dx_worked.specs.Reading.{NamedAreRead, emp_world, emps, named, with_names}

abbrev emp_bytes : List ℕ
emp_bytes = codes "name,dept\nann,toys\nbob,\n,toys\n"

has_table : emp_world (codes "emp.csv") ≡ Some emp_bytes
has_table = get-insert nat_list_cmp_total (from_entries []) (codes "emp.csv") emp_bytes (codes "emp.csv")

-- ---- what the file says

abbrev columns : List Text
columns = codes "name" ∷ codes "dept" ∷ []

abbrev under : List (List Text)
under = (codes "ann" ∷ codes "toys" ∷ []) ∷ (codes "bob" ∷ [] ∷ []) ∷ ([] ∷ codes "toys" ∷ []) ∷ []

records_are : table_records emp_bytes ≡ columns ∷ under
unfolding records_from next_record strip_bom
records_are = refl

none_ascii : IsAscii []
none_ascii i = omega arith

ann_ascii : IsAscii (codes "ann")
ann_ascii zero = omega arith
ann_ascii (suc zero) = omega arith
ann_ascii (suc (suc zero)) = omega arith
ann_ascii (suc (suc (suc i))) = omega arith

bob_ascii : IsAscii (codes "bob")
bob_ascii zero = omega arith
bob_ascii (suc zero) = omega arith
bob_ascii (suc (suc zero)) = omega arith
bob_ascii (suc (suc (suc i))) = omega arith

toys_ascii : IsAscii (codes "toys")
toys_ascii zero = omega arith
toys_ascii (suc zero) = omega arith
toys_ascii (suc (suc zero)) = omega arith
toys_ascii (suc (suc (suc zero))) = omega arith
toys_ascii (suc (suc (suc (suc i)))) = omega arith

whole : (name dept : Text) → IsAscii name → IsAscii dept → IsWholeRecord columns (name ∷ dept ∷ [])
unfolding AllText
whole name dept a b = record { width = refl; text = (IsUtf8-from_ascii name a, (IsUtf8-from_ascii dept b, tt)) }

all_whole : All (IsWholeRecord columns) under
all_whole zero d lt = whole (codes "ann") (codes "toys") ann_ascii toys_ascii
all_whole (suc zero) d lt = whole (codes "bob") [] bob_ascii none_ascii
all_whole (suc (suc zero)) d lt = whole [] (codes "toys") none_ascii toys_ascii
all_whole (suc (suc (suc k))) d lt = absurd (omega (arith, lt))

abbrev ann_row : List Value
ann_row = Const (codes "ann") ∷ Const (codes "toys") ∷ []

abbrev bob_row : List Value
bob_row = Const (codes "bob") ∷ Const [] ∷ []

abbrev held_rows : List (List Value)
held_rows = ann_row ∷ bob_row ∷ (Const [] ∷ Const (codes "toys") ∷ []) ∷ []

is_table : AreTableRecords (table_records emp_bytes) columns held_rows
is_table = record { under = under; header = records_are; whole = all_whole; values = refl }

-- ---- what is read

abbrev read : ReadState
read = record { facts = as_facts 0 held_rows; bytes_left = data_bytes - length emp_bytes; cells_left = source_cells - 6 }

abbrev begun : ReadState
begun = record { facts = []; bytes_left = data_bytes - length emp_bytes; cells_left = source_cells }

says_rows : SaysSourceFacts flat emps 0 (at_start, emp_bytes) (begun, as_facts 0 held_rows)
says_rows = (as_facts 0 held_rows, (held_rows, is_table, refl), refl)

was_read : (reading emps 0).passes emp_world at_start read
was_read = ((at_start, emp_bytes), (emp_bytes, (has_table, omega arith), refl), ((begun, as_facts 0 held_rows), says_rows, refl))

rows_ascend : (t : ℕ) → RowsAscend (rows_of named t)
rows_ascend zero = ((λ x m. less x m), ((λ x m. elim m [ ]), tt))
  where
    less : (x : List Value) → x ∈ (bob_row ∷ []) → row_cmp ann_row x ≡ Less
    less x (here e) = subst (λ r. row_cmp ann_row r ≡ Less) e refl
    less x (there m) = elim m [ ]
rows_ascend (suc t) = tt

-- the third has no name, so that it isn't stored
is_source : (source_stages shipped_passes).passes emp_world (wanted with_names) named
is_source = (read, (read, was_read, refl), record { widths_are = refl; ascend = rows_ascend; exact = ((λ x m. m), (λ x m. m)) })

pub named_are_read : NamedAreRead
named_are_read list tests apply I = (from, (λ e. (named, is_source, ap (λ (K : List TableRows). (with_names, K)) e)))
  where
    from : ((J : List TableRows) × (source_stages shipped_passes).passes emp_world (wanted with_names) J
        × (◌≡◌ {A = MappingAndRows} (with_names, I) (with_names, J))) → I ≡ named
    from (J, s, e) =
        let same : I ≡ J = ap (λ (p : MappingAndRows). p.1) e in
        subst (λ (K : List TableRows). K ≡ named) (sym same) (source_one shipped_passes emp_world (wanted with_names) J named s is_source)

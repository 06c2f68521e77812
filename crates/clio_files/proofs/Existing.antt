-- An exchange that fits its schema has files.
use Rattle.std.proofs.Common.{ℕ, suc, ◌≤◌, List, [], ◌∷◌, ◌++◌, length, map, refl, ap, subst, arith}
use Rattle.std.specs.Prelude.{if◌then◌else◌}
use Rattle.std.specs.Cmp.{IsTotalOrder}
use Rattle.std.proofs.lemmas.Cmp.{lists_total}
use Rattle.std.proofs.lemmas.List.{length-map}
use Rattle.dx_base.specs.Members.{◌∈◌, here, there, Each}
use Rattle.dx_base.proofs.Members.{from_map}
use Rattle.dx_model.specs.declared.facts.Fact.{Fact}
use Rattle.dx_model.specs.declared.values.NullId.{NullId}
use Rattle.dx_model.specs.declared.values.Value.{Value}
use Rattle.dx_model.specs.Instances.{values, nulls_in}
use Rattle.dx_model.specs.Values.{null_cmp, row_cmp}
use Rattle.dx_model.proofs.Ascending.{in_order, in_order_ascends, in_in_order, from_in_order}
use Rattle.dx_model.proofs.Orders.{null_exact, null_total, value_total, row_exact}
use Rattle.dx_model.proofs.Reduction.{in_nulls, from_nulls}
use Rattle.dx_instance.specs.Stored.{TableRows, facts, rows_of}
use Rattle.dx_instance.specs.ValueText.{value_text_of}
use Rattle.dx_instance.proofs.StoredFacts.{fact_from_row}
use Rattle.dx_schema.specs.Forest.{Forest}
use Rattle.dx_schema.specs.Tables.{TableOf, schema_table, tables_of}
use Rattle.dx_csv.specs.Print.{HasNoMark, records_text, records_of_table}
use Rattle.dx_csv.proofs.TableTextFacts.{printed-reads-back}
use Rattle.dx_json.proofs.OneText.{has_text}
use Rattle.clio_source.specs.Source.{csv_name, roots, json_name}
use Rattle.clio_files.specs.Files.{AreTableFiles, IsTableFile}
use Rattle.clio_files.specs.Laws.{FilesExist}
use Rattle.clio_files.specs.Nested.{AreRootFiles, IsRootFile}
use Rattle.clio_files.specs.Sheets.{AreTargetNulls, PrintedFile}

row_total : IsTotalOrder row_cmp
row_total = lists_total value_total

table_file : (front : List ℕ) (t : TableOf) (rows : List (List Value)) → HasNoMark t.columns → 1 ≤ length t.columns → Each rows (λ row. 1 ≤ length row)
    → (f : PrintedFile) × IsTableFile front t rows f
table_file front t rows mark some wide =
    let sorted = in_order row_cmp row_total row_exact rows in (
      record { name = front ++ csv_name t.name; bytes = records_text (records_of_table t.columns sorted); count = length sorted },
      record {
        name = refl;
        bytes = record {
          sorted = sorted;
          ascend = in_order_ascends row_cmp row_total row_exact rows;
          kept = λ x m. in_in_order row_cmp row_total row_exact x rows m;
          only = λ x m. from_in_order row_cmp row_total row_exact x rows m;
          is = refl;
          reads = printed-reads-back t.columns (map (map value_text_of) sorted) mark each;
        };
        count = refl;
      },
    )
  where
    one : (r : List (List ℕ)) → r ∈ map (map value_text_of) (in_order row_cmp row_total row_exact rows) → 1 ≤ length r
    one r m =
        let p = from_map (map value_text_of) (in_order row_cmp row_total row_exact rows) m in
        let w = wide p.0 (from_in_order row_cmp row_total row_exact p.0 rows p.1) in
        let e = ap length p.2 in
        let l = length-map p.0 value_text_of in
        omega (arith, w, e, l)

    each : Each (t.columns ∷ map (map value_text_of) (in_order row_cmp row_total row_exact rows)) (λ r. 1 ≤ length r)
    each r (here e) = subst (λ (c : List (List ℕ)). 1 ≤ length c) e some
    each r (there m) = one r m

pub table_files : (front : List ℕ) (n : ℕ) (ts : List TableOf) (T : List TableRows) → Each ts (λ t. HasNoMark t.columns) → Each ts (λ t. 1 ≤ length t.columns)
    → ((t : ℕ) → Each (rows_of T t) (λ row. 1 ≤ length row))
    → (fs : List PrintedFile) × AreTableFiles front n ts T fs
table_files front n [] T marks some wide = ([], tt)
table_files front n (t ∷ ts) T marks some wide =
    let f = table_file front t (rows_of T n) (marks t (here refl)) (some t (here refl)) (wide n) in
    let fs = table_files front (suc n) ts T (λ u m. marks u (there m)) (λ u m. some u (there m)) wide in
    (f.0 ∷ fs.0, (f.1, fs.1))

pub nulls_exist : (T : List Fact) → (ns : List NullId) × AreTargetNulls T ns
nulls_exist T =
    let all = nulls_in (values T) in (
      in_order null_cmp null_total null_exact all,
      record {
        ascend = in_order_ascends null_cmp null_total null_exact all;
        exact = λ n. (
          (λ m. from_nulls n (values T) (from_in_order null_cmp null_total null_exact n all m)),
          (λ m. in_in_order null_cmp null_total null_exact n all (in_nulls n (values T) m)),
        );
      },
    )

root_file : (target : Forest) (T : List TableRows) (root : ℕ) → (f : PrintedFile) × IsRootFile target T root f
root_file target T root =
    let text = has_text T target root in (
      record { name = json_name (schema_table target root).name; bytes = text.0; count = length (rows_of T root) },
      record { name = refl; bytes = text.1; count = refl },
    )

root_files : (target : Forest) (T : List TableRows) (rs : List ℕ) → (fs : List PrintedFile) × AreRootFiles target T rs fs
root_files target T [] = ([], tt)
root_files target T (r ∷ rs) =
    let f = root_file target T r in
    let fs = root_files target T rs in
    (f.0 ∷ fs.0, (f.1, fs.1))

pub files_exist : FilesExist
files_exist source target list mode nested R e fits tables wide =
    let some : Each (tables_of target) (λ t. 1 ≤ length t.columns) = λ t m. (tables.each_table t m).some_column in
    let fs = table_files [] 0 (tables_of target) e.target fits.no_marks some (λ t row m. wide _ (fact_from_row e.target t row m)) in
    let ns = nulls_exist (facts e.target) in
    let ds = root_files target e.target (if nested then roots target else []) in
    (_, record { tables = fs.0; tables_are = fs.1; nulls = ns.0; nulls_are = ns.1; documents = ds.0; documents_are = ds.1; is = refl })

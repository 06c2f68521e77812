-- An exchange has one list of files.
use Rattle.std.proofs.Common.{◌≡◌, ℕ, suc, List, [], ◌∷◌, length, refl, sym, ◌∙◌, ap}
use Rattle.std.specs.Prelude.{if◌then◌else◌, ◌++◌}
use Rattle.std.specs.Cmp.{IsTotalOrder}
use Rattle.std.proofs.lemmas.Cmp.{lists_total}
use Rattle.dx_model.specs.declared.facts.Fact.{Fact}
use Rattle.dx_funcs.specs.declared.conversion.Conversion.{Conversion}
use Rattle.dx_model.specs.declared.rules.Rule.{Rule}
use Rattle.dx_model.specs.declared.values.NullId.{NullId}
use Rattle.dx_model.specs.declared.values.Value.{Value}
use Rattle.dx_model.specs.Values.{null_cmp, row_cmp}
use Rattle.dx_model.proofs.Ascending.{one_ascending}
use Rattle.dx_model.proofs.Orders.{null_total, value_total}
use Rattle.dx_instance.specs.Stored.{TableRows, facts, rows_of}
use Rattle.dx_schema.specs.Forest.{Forest}
use Rattle.dx_schema.specs.Tables.{TableOf, tables_of}
use Rattle.dx_csv.specs.Print.{IsTableText, records_text, records_of_table}
use Rattle.dx_json.proofs.OneText.{text_is_one}
use Rattle.dx_exchange.specs.declared.mode.Mode.{Mode}
use Rattle.dx_exchange.specs.declared.result.Exchange.{Exchange}
use Rattle.dx_instance.specs.NullMaps.{pairs_of}
use Rattle.clio_source.specs.Source.{roots}
use Rattle.clio_files.specs.Files.{AreTableFiles, IsTableFile}
use Rattle.clio_files.specs.Laws.{FilesAreOne}
use Rattle.clio_files.specs.Nested.{AreRootFiles, IsRootFile}
use Rattle.clio_files.specs.Sheets.{AreTargetNulls, PrintedFile, file_of, fold_sheet, nulls_sheet}
use Rattle.clio_files.specs.Texts.{texts_told}

row_total : IsTotalOrder row_cmp
row_total = lists_total value_total

-- files are one where their names, bytes and counts are
same_told : (f g : PrintedFile) → f.name ≡ g.name → f.bytes ≡ g.bytes → f.count ≡ g.count → f ≡ g
same_told f g n b c = (λ i. record { name = n i; bytes = b i; count = c i })

sorted_is_one : (columns : List (List ℕ)) (rows : List (List Value)) (a b : List ℕ) (p : IsTableText columns rows a)
    (q : IsTableText columns rows b) → p.sorted ≡ q.sorted
sorted_is_one columns rows a b p q =
    one_ascending row_cmp row_total p.sorted q.sorted p.ascend q.ascend (λ x m. q.kept x (p.only x m)) (λ x m. p.kept x (q.only x m))

table_text_is_one : (columns : List (List ℕ)) (rows : List (List Value)) (a b : List ℕ) → IsTableText columns rows a
    → IsTableText columns rows b → a ≡ b
table_text_is_one columns rows a b p q =
    p.is ∙ ap (λ sorted. records_text (records_of_table columns sorted)) (sorted_is_one columns rows a b p q) ∙ sym q.is

table_file_is_one : (front : List ℕ) (t : TableOf) (rows : List (List Value)) (f g : PrintedFile) → IsTableFile front t rows f → IsTableFile front t rows g → f ≡ g
table_file_is_one front t rows f g p q =
    same_told f g (p.name ∙ sym q.name) (table_text_is_one t.columns rows f.bytes g.bytes p.bytes q.bytes)
    (p.count ∙ ap (λ (l : List (List Value)). length l) (sorted_is_one t.columns rows f.bytes g.bytes p.bytes q.bytes) ∙ sym q.count)

pub table_files_are_one : (front : List ℕ) (n : ℕ) (ts : List TableOf) (T : List TableRows) (fs gs : List PrintedFile) → AreTableFiles front n ts T fs
    → AreTableFiles front n ts T gs → fs ≡ gs
table_files_are_one front n [] T [] [] p q = refl
table_files_are_one front n [] T [] (g ∷ gs) p q = absurd q
table_files_are_one front n [] T (f ∷ fs) gs p q = absurd p
table_files_are_one front n (t ∷ ts) T [] gs p q = absurd p
table_files_are_one front n (t ∷ ts) T (f ∷ fs) [] p q = absurd q
table_files_are_one front n (t ∷ ts) T (f ∷ fs) (g ∷ gs) p q =
    let first = table_file_is_one front t (rows_of T n) f g p.0 q.0 in
    let rest = table_files_are_one front (suc n) ts T fs gs p.1 q.1 in
    (λ i. first i ∷ rest i)

nulls_are_one : (T : List Fact) (ns ms : List NullId) → AreTargetNulls T ns → AreTargetNulls T ms → ns ≡ ms
nulls_are_one T ns ms p q =
    one_ascending null_cmp null_total ns ms p.ascend q.ascend (λ n m. (q.exact n).1 ((p.exact n).0 m)) (λ n m. (p.exact n).1 ((q.exact n).0 m))

root_file_is_one : (target : Forest) (T : List TableRows) (root : ℕ) (f g : PrintedFile) → IsRootFile target T root f → IsRootFile target T root g
    → f ≡ g
root_file_is_one target T root f g p q =
    same_told f g (p.name ∙ sym q.name) (text_is_one T target root f.bytes g.bytes p.bytes q.bytes) (p.count ∙ sym q.count)

root_files_are_one : (target : Forest) (T : List TableRows) (rs : List ℕ) (fs gs : List PrintedFile) → AreRootFiles target T rs fs
    → AreRootFiles target T rs gs → fs ≡ gs
root_files_are_one target T [] [] [] p q = refl
root_files_are_one target T [] [] (g ∷ gs) p q = absurd q
root_files_are_one target T [] (f ∷ fs) gs p q = absurd p
root_files_are_one target T (r ∷ rs) [] gs p q = absurd p
root_files_are_one target T (r ∷ rs) (f ∷ fs) [] p q = absurd q
root_files_are_one target T (r ∷ rs) (f ∷ fs) (g ∷ gs) p q =
    let first = root_file_is_one target T r f g p.0 q.0 in
    let rest = root_files_are_one target T rs fs gs p.1 q.1 in
    (λ i. first i ∷ rest i)

-- the files of these parts
abbrev listed : Forest → Forest → List Conversion → Mode → List Rule → Exchange → List PrintedFile → List NullId → List PrintedFile → List PrintedFile
listed source target list mode R e tables nulls documents =
    texts_told source target list mode R
    ++ (tables ++ file_of (nulls_sheet R e.matches nulls) ∷ file_of (fold_sheet (pairs_of e.fold)) ∷ documents)

pub one_list_of_files : FilesAreOne
one_list_of_files source target list mode nested R e files others p q =
    let tables = table_files_are_one [] 0 (tables_of target) e.target p.tables q.tables p.tables_are q.tables_are in
    let nulls = nulls_are_one (facts e.target) p.nulls q.nulls p.nulls_are q.nulls_are in
    let documents = root_files_are_one target e.target (if nested then roots target else []) p.documents q.documents p.documents_are q.documents_are in
    p.is ∙ ap (λ (ts : List PrintedFile). listed source target list mode R e ts p.nulls p.documents) tables
    ∙ ap (λ (ns : List NullId). listed source target list mode R e q.tables ns p.documents) nulls
    ∙ ap (λ (ds : List PrintedFile). listed source target list mode R e q.tables q.nulls ds) documents ∙ sym q.is

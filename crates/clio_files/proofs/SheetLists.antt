-- Files, records and tables, one by one.
use Rattle.std.proofs.Common.{◌≡◌, ℕ, zero, suc, ◌+◌, ◌-◌, ◌<◌, ◌≤◌, List, [], ◌∷◌, ◌++◌, refl, sym, ap, ◌∙◌, subst, arith}
use Rattle.std.proofs.Common.{Result, Ok, Err, length, get_or, take, map, flat_map, append_assoc}
use Rattle.std.specs.Prelude.{IfOk}
use Rattle.std.specs.declared.alloc.AllocError.{AllocError}
use Rattle.std.proofs.lemmas.Grind.{flat_map-append}
use Rattle.std.proofs.lemmas.List.{append-nil, length-map, map-append, take_more, take_all}
use Rattle.dx_base.specs.declared.file.File.{File}
use Rattle.dx_base.specs.Entries.{entry_of, entries_of}
use Rattle.dx_model.specs.declared.values.NullId.{NullId}
use Rattle.dx_model.specs.declared.rules.Rule.{Rule}
use Rattle.dx_model.specs.declared.facts.NullPair.{NullPair}
use Rattle.dx_csv.specs.Print.{records_text}
use Rattle.dx_instance.specs.ValueText.{const_text, null_text, value_text_of}
use Rattle.clio_files.specs.declared.records.Records.{Records}
use Rattle.clio_files.specs.Printing.{AreRecords}
use Rattle.dx_model.specs.Rules.{exported}
use Rattle.dx_model.specs.Values.{Rows}
use Rattle.dx_base.specs.Texts.{Text}
use Rattle.dx_instance.specs.Stored.{TableRows, rows_of}
use Rattle.dx_schema.specs.Tables.{TableOf}
use Rattle.dx_tgd.proofs.Lending.{get_map}
use Rattle.clio_files.specs.declared.printed.Printed.{Printed}
use Rattle.clio_files.specs.Files.{AreTableFiles, IsTableFile, files_of, summary_line, printed_view, summary_of}
use Rattle.clio_files.specs.Sheets.{Sheet, PrintedFile, exported_names, file_of, fold_sheet, nulls_sheet, rule_of_null, term_records, null_texts}
use Rattle.dx_rule_text.specs.Printed.{variable_text}

-- ---- what is seen of printed files

map_same : (ps : List Printed) → map (λ (p : Printed). p) ps ≡ ps
map_same [] = refl
map_same (p ∷ ps) = ap (λ (l : List Printed). p ∷ l) (map_same ps)

entries_seen : (ps : List Printed) → entries_of (map (λ (p : Printed). p.file) ps) ≡ files_of (map printed_view ps)
entries_seen [] = refl
entries_seen (p ∷ ps) = ap (λ es. entry_of p.file ∷ es) (entries_seen ps)

-- the files of printed files, taken over one by one
pub files_taken : (files : List File) (taken ps : List Printed) → files ≡ map (λ (p : Printed). p.file) taken
    → map (λ (p : Printed). p) taken ≡ ps
    → entries_of files ≡ files_of (map printed_view ps)
files_taken files taken ps e t =
    ap entries_of (e ∙ ap (λ (l : List Printed). map (λ (p : Printed). p.file) l) (sym (map_same taken) ∙ t)) ∙ entries_seen ps

-- the line of the summary for a printed file
abbrev pub printed_line : Printed → Text
printed_line p = summary_line (printed_view p)

lines_seen : (ps : List Printed) → flat_map printed_line ps ≡ summary_of (map printed_view ps)
lines_seen [] = refl
lines_seen (p ∷ ps) = ap (λ (l : List ℕ). summary_line (printed_view p) ++ l) (lines_seen ps)

pub all_lines : (ps : List Printed) (i : ℕ) (text : Text) → length ps ≤ i → text ≡ flat_map printed_line (take i ps)
    → text ≡ summary_of (map printed_view ps)
all_lines ps i text h e = e ∙ ap (flat_map printed_line) (take_all i ps h) ∙ lines_seen ps

-- the files of two more
pub two_more : (ps qs rs : List Printed) (a b : Printed) (s t : PrintedFile) → printed_view a ≡ s → printed_view b ≡ t → qs ≡ ps ++ a ∷ [] → rs ≡ qs ++ b ∷ []
    → map printed_view rs ≡ map printed_view ps ++ s ∷ t ∷ []
two_more ps qs rs a b s t f g d h =
    rw (h, d, append_assoc ps (a ∷ []) (b ∷ []), map-append printed_view ps (a ∷ b ∷ []), f, g) refl

-- ---- tables, one by one

pub are_more : (front : Text) (n : ℕ) (ts : List TableOf) (T : List TableRows) (fs : List PrintedFile) (t : TableOf) (f : PrintedFile) → AreTableFiles front n ts T fs
    → IsTableFile front t (rows_of T (n + length ts)) f
    → AreTableFiles front n (ts ++ t ∷ []) T (fs ++ f ∷ [])
are_more front n [] T [] t f h k = let e : n + 0 ≡ n = omega arith in (subst (λ m. IsTableFile front t (rows_of T m) f) e k, tt)
are_more front n [] T (g ∷ fs) t f h k = absurd h
are_more front n (u ∷ ts) T [] t f h k = absurd h
are_more front n (u ∷ ts) T (g ∷ fs) t f h k =
    let e : n + length (u ∷ ts) ≡ suc n + length ts = omega arith in
    (h.0, are_more front (suc n) ts T fs t f h.1 (subst (λ m. IsTableFile front t (rows_of T m) f) e k))

pub length_take : {X : Type 0} (ts : List X) (i : ℕ) → i < length ts → length (take i ts) ≡ i
length_take [] i h = absurd (omega (arith, h))
length_take (t ∷ ts) zero h = refl
length_take (t ∷ ts) (suc i) h = ap suc (length_take ts i (omega (arith, h)))

-- the file of a sheet
pub sheet_told : (r : Result Printed AllocError) (name : Text) (records : Records) (s : Sheet)
    → IfOk r (λ p. (s : Sheet) → name ≡ s.name → AreRecords records (s.header ∷ s.records) → printed_view p ≡ file_of s) → name ≡ s.name
    → AreRecords records (s.header ∷ s.records) → IfOk r (λ p. printed_view p ≡ file_of s)
sheet_told (Ok p) name records s f n e = f s n e
sheet_told (Err x) name records s f n e = tt

pub sheet_is : (s : Sheet) (records : Records) (name bytes : List ℕ) (count : ℕ) → name ≡ s.name
    → AreRecords records (s.header ∷ s.records) → bytes ≡ records_text (s.header ∷ s.records) → count ≡ records.count - 1
    → ◌≡◌ {A = PrintedFile} (record { name = name; bytes = bytes; count = count }) (file_of s)
sheet_is s records name bytes count n h b c =
    let k : count ≡ length s.records = omega (arith, c, h.count) in
    rw (n, b, k) refl

-- ---- records

-- the header of a sheet, and its records
abbrev pub lines_of : Sheet → List (List Text)
lines_of s = s.header ∷ s.records

-- the exported variables of the rule of a null
pub variables_at : (R : List Rule) (n : NullId) (lists : List (List ℕ)) (xs : List ℕ) → lists ≡ map exported R → n.rule < length R
    → xs ≡ get_or lists n.rule xs → xs ≡ exported (rule_of_null R n)
variables_at R n lists xs e h g =
    let at : get_or (map exported R) n.rule xs ≡ exported (rule_of_null R n) =
    get_map exported R n.rule xs (record { premise = []; derived = []; conclusion = [] }) h in
    g ∙ ap (λ (l : List (List ℕ)). get_or l n.rule xs) e ∙ at

-- one null more
pub null_lines_more : (R : List Rule) (rows : Rows) (ns : List NullId) (i : ℕ) (d : NullId) (lines : List (List Text)) → i < length ns
    → lines ≡ lines_of (nulls_sheet R rows (take i ns))
    → lines ++ term_records (get_or ns i d) (exported_names (rule_of_null R (get_or ns i d))) (null_texts rows (get_or ns i d))
    ≡ lines_of (nulls_sheet R rows (take (i + 1) ns))
null_lines_more R rows ns i d lines h e =
    let n = get_or ns i d in
    let f = λ (m : NullId). term_records m (exported_names (rule_of_null R m)) (null_texts rows m) in
    let more : flat_map f (take (i + 1) ns) ≡ flat_map f (take i ns) ++ f n =
    rw (take_more ns i d h, flat_map-append f (take i ns) (n ∷ []), append-nil) refl in
    let header : List Text = (nulls_sheet R rows []).header in
    ap (λ (l : List (List Text)). l ++ f n) e ∙ ap (λ (l : List (List Text)). header ∷ l) (sym more)

-- the file of equal rules and nulls
pub same_told : (R Q : List Rule) (rows : Rows) (ns ms : List NullId) (p : Printed) → Q ≡ R → ms ≡ ns
    → printed_view p ≡ file_of (nulls_sheet Q rows ms) → printed_view p ≡ file_of (nulls_sheet R rows ns)
same_told R Q rows ns ms p e d h =
    h ∙ ap (λ (S : List Rule). file_of (nulls_sheet S rows ms)) e ∙ ap (λ (ls : List NullId). file_of (nulls_sheet R rows ls)) d

-- the record of one variable more
term_append : (n : NullId) (ys : List Text) (y : Text) (ts : List Text) → length ys < length ts
    → term_records n (ys ++ y ∷ []) ts
    ≡ term_records n ys ts ++ (null_text n ∷ y ∷ const_text (get_or ts (length ys) []) ∷ []) ∷ []
term_append n [] y [] h = absurd (omega (arith, h))
term_append n [] y (t ∷ ts) h = refl
term_append n (z ∷ ys) y [] h = absurd (omega (arith, h))
term_append n (z ∷ ys) y (t ∷ ts) h =
    ap (λ (l : List (List Text)). (null_text n ∷ z ∷ const_text t ∷ []) ∷ l) (term_append n ys y ts (omega (arith, h)))

pub terms_more : (n : NullId) (xs : List ℕ) (ts : List Text) (rs : List (List Text)) (i d : ℕ) → i < length xs → length ts ≡ length xs
    → (rs ++ term_records n (map variable_text (take i xs)) ts)
    ++ (null_text n ∷ variable_text (get_or xs i d) ∷ const_text (get_or ts i []) ∷ []) ∷ []
    ≡ rs ++ term_records n (map variable_text (take (i + 1) xs)) ts
terms_more n xs ts rs i d h e =
    let ys = map variable_text (take i xs) in
    let y = variable_text (get_or xs i d) in
    let record_at = λ (k : ℕ). null_text n ∷ y ∷ const_text (get_or ts k []) ∷ [] in
    let many : length ys ≡ i = length-map (take i xs) variable_text ∙ length_take xs i h in
    let names : map variable_text (take (i + 1) xs) ≡ ys ++ y ∷ [] =
    ap (map variable_text) (take_more xs i d h) ∙ map-append variable_text (take i xs) (get_or xs i d ∷ []) in
    let one : term_records n (map variable_text (take (i + 1) xs)) ts ≡ term_records n ys ts ++ record_at i ∷ [] =
    ap (λ (l : List Text). term_records n l ts) names
    ∙ (term_append n ys y ts (omega (arith, many, h, e)) ∙ ap (λ (k : ℕ). term_records n ys ts ++ record_at k ∷ []) many) in
    append_assoc rs (term_records n ys ts) (record_at i ∷ []) ∙ ap (λ (l : List (List Text)). rs ++ l) (sym one)

-- a rule with a place has a list of tuples
pub has_list : (rows : Rows) (i k : ℕ) → k < length (get_or rows i []) → i < length rows
has_list [] i k h = absurd (omega (arith, h))
has_list (ts ∷ rows) zero k h = omega arith
has_list (ts ∷ rows) (suc i) k h = let r = has_list rows i k h in omega (arith, r)

-- one pair of the fold more
pub fold_more : (pairs : List NullPair) (i : ℕ) (p : NullPair) → i < length pairs → p ≡ get_or pairs i p
    → lines_of (fold_sheet (take i pairs)) ++ (null_text p.null ∷ value_text_of p.value ∷ []) ∷ []
    ≡ lines_of (fold_sheet (take (i + 1) pairs))
fold_more pairs i p h is =
    let f = λ (q : NullPair). null_text q.null ∷ value_text_of q.value ∷ [] in
    let e : map f (take (i + 1) pairs) ≡ map f (take i pairs) ++ f p ∷ [] =
    ap (map f) (take_more pairs i p h ∙ ap (λ q. take i pairs ++ q ∷ []) (sym is)) ∙ map-append f (take i pairs) (p ∷ []) in
    ap (λ rs. (fold_sheet []).header ∷ rs) (sym e)

-- ---- tables

-- a table is as wide as its columns are many
pub width_at : (I : List TableRows) (ts : List TableOf) (n : ℕ) (d : TableRows) (e : TableOf)
    → map (λ (t : TableRows). t.width) I ≡ map (λ (t : TableOf). length t.columns) ts
    → n < length ts → (n < length I) × (length (get_or ts n e).columns ≡ (get_or I n d).width)
width_at I [] n d e w h = absurd (omega arith)
width_at [] (t ∷ ts) n d e w h = absurd (cc)
width_at (i ∷ I) (t ∷ ts) zero d e w h = (omega arith, cc)
width_at (i ∷ I) (t ∷ ts) (suc n) d e w h =
    let r = width_at I ts n d e (cc) (omega arith) in
    (omega (arith, r.0), r.1)

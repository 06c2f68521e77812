-- The files of a comparison: added one direction after the other; they exist, are one list, and have own names.
use Rattle.std.proofs.Common.{◌≡◌, ℕ, ◌≤◌, List, [], ◌∷◌, ◌++◌, append_assoc, codes, get_or, length, map, inl, inr, refl, sym, ◌∙◌, ap, subst, arith, Result, Ok, Err}
use Rattle.std.specs.Prelude.{OnOk}
use Rattle.std.proofs.lemmas.List.{append-nil, append_cancel_left, append_cancel_right, map-append}
use Rattle.dx_base.specs.Members.{◌∈◌, Distinct, Each}
use Rattle.dx_base.proofs.Members.{from_append, from_map, in_map}
use Rattle.dx_instance.specs.Stored.{TableRows, facts}
use Rattle.dx_instance.proofs.StoredFacts.{fact_from_row}
use Rattle.dx_schema.specs.Forest.{Forest}
use Rattle.dx_schema.specs.Tables.{AreTables, TableOf, tables_of}
use Rattle.dx_compare.specs.declared.comparing.Answer.{Answer}
use Rattle.dx_compare.specs.declared.comparing.Answer.TheVariants as answers
use Rattle.dx_compare.specs.declared.comparing.Comparison.{Comparison}
use Rattle.clio_source.specs.Source.{csv_name}
use Rattle.clio_files.specs.Comparisons.{AddsDirection, AreComparedFiles, AreDirectionFiles, HaveNoMarks, source_front, target_front}
use Rattle.clio_files.specs.Files.{AreTableFiles}
use Rattle.clio_files.specs.Laws.{ComparedFilesAreOne, ComparedFilesExist, ComparedNamesAreApart, HaveColumns}
use Rattle.clio_files.specs.Printing.{AddsTables}
use Rattle.clio_files.specs.Sheets.{PrintedFile}
use Rattle.clio_files.proofs.Existing.{table_files}
use Rattle.clio_files.proofs.OneList.{table_files_are_one}
use Rattle.clio_files.proofs.OwnNames.{Name, distinct_append, fronted, name_in, names_of, table_names}

-- ---- files that are added

-- what follows of a result that is there
pub on_ok : {A E P Q : Type 0} (r : Result A E) → (P → Q) → OnOk r P → OnOk r Q
on_ok (Ok x) f p = f p
on_ok (Err e) f p = tt

pub none_added : (direction : List ℕ) (source target : Forest) (files : List PrintedFile) → AddsDirection direction source target answers.Implies files files
none_added direction source target files = record { files = []; are = refl; is = sym (append-nil files) }

pub both_added : (direction front back : List ℕ) (source target : Forest) (rule : ℕ) (I K : List TableRows) (old mid new : List PrintedFile)
    → front ≡ source_front direction → back ≡ target_front direction
    → AddsTables front (tables_of source) I old mid → AddsTables back (tables_of target) K mid new
    → AddsDirection direction source target (answers.Refuted rule I K) old new
both_added direction front back source target rule I K old mid new f b x y =
    let p = subst (λ n. AddsTables n (tables_of source) I old mid) f x in
    let q = subst (λ n. AddsTables n (tables_of target) K mid new) b y in record {
      files = p.tables ++ q.tables;
      are = record { sources = p.tables; sources_are = p.are; targets = q.tables; targets_are = q.are; is = refl };
      is = q.is ∙ ap (λ (fs : List PrintedFile). fs ++ q.tables) p.is ∙ append_assoc old p.tables q.tables;
    }

pub all_added : (source target : Forest) (c : Comparison) (none mid new : List PrintedFile) → none ≡ []
    → AddsDirection (codes "forward") source target c.forward none mid → AddsDirection (codes "backward") source target c.backward mid new
    → AreComparedFiles source target c new
all_added source target c none mid new e p q = record {
  forward = p.files;
  forward_are = p.are;
  backward = q.files;
  backward_are = q.are;
  is = q.is ∙ ap (λ (fs : List PrintedFile). fs ++ q.files) (p.is ∙ ap (λ (fs : List PrintedFile). fs ++ p.files) e);
}

-- ---- they exist

tables_exist : (front : Name) (f : Forest) (I : List TableRows) → HaveNoMarks f → AreTables (tables_of f) → Each (facts I) (λ x. 1 ≤ length x.row)
    → (fs : List PrintedFile) × AreTableFiles front 0 (tables_of f) I fs
tables_exist front f I marks tables wide =
    table_files front 0 (tables_of f) I marks (λ t m. (tables.each_table t m).some_column) (λ t row m. wide _ (fact_from_row I t row m))

direction_exists : (direction : Name) (source target : Forest) (answer : Answer) → HaveNoMarks source → HaveNoMarks target
    → AreTables (tables_of source) → AreTables (tables_of target) → HaveColumns answer
    → (fs : List PrintedFile) × AreDirectionFiles direction source target answer fs
direction_exists direction source target answers.Implies sm tm ss ts wide = ([], refl)
direction_exists direction source target (answers.Refuted rule I K) sm tm ss ts wide =
    let p = tables_exist (source_front direction) source I sm ss wide.0 in
    let q = tables_exist (target_front direction) target K tm ts wide.1 in
    (p.0 ++ q.0, record { sources = p.0; sources_are = p.1; targets = q.0; targets_are = q.1; is = refl })

pub files_exist : ComparedFilesExist
files_exist source target c fits ss ts forward backward =
    let p = direction_exists (codes "forward") source target c.forward fits.source_marks fits.target_marks ss ts forward in
    let q = direction_exists (codes "backward") source target c.backward fits.source_marks fits.target_marks ss ts backward in
    (p.0 ++ q.0, record { forward = p.0; forward_are = p.1; backward = q.0; backward_are = q.1; is = refl })

-- ---- they are one list

direction_is_one : (direction : Name) (source target : Forest) (answer : Answer) (fs gs : List PrintedFile) → AreDirectionFiles direction source target answer fs
    → AreDirectionFiles direction source target answer gs → fs ≡ gs
direction_is_one direction source target answers.Implies fs gs p q = p ∙ sym q
direction_is_one direction source target (answers.Refuted rule I K) fs gs p q =
    let a = table_files_are_one (source_front direction) 0 (tables_of source) I p.sources q.sources p.sources_are q.sources_are in
    let b = table_files_are_one (target_front direction) 0 (tables_of target) K p.targets q.targets p.targets_are q.targets_are in
    p.is ∙ ap (λ (xs : List PrintedFile). xs ++ p.targets) a ∙ ap (λ (xs : List PrintedFile). q.sources ++ xs) b ∙ sym q.is

pub one_list : ComparedFilesAreOne
one_list source target c files others p q =
    let a = direction_is_one (codes "forward") source target c.forward p.forward q.forward p.forward_are q.forward_are in
    let b = direction_is_one (codes "backward") source target c.backward p.backward q.backward p.backward_are q.backward_are in
    p.is ∙ ap (λ (xs : List PrintedFile). xs ++ p.backward) a ∙ ap (λ (xs : List PrintedFile). q.forward ++ xs) b ∙ sym q.is

-- ---- their names

fronted_distinct : (front : Name) (ts : List TableOf) → Distinct (map name_in ts) → Distinct (map (fronted front) ts)
fronted_distinct front [] d = tt
fronted_distinct front (t ∷ ts) d = (
  (λ m.
      let p = from_map (fronted front) ts m in
      let e = append_cancel_left front (csv_name p.0.name) (csv_name t.name) p.2 in
      d.0 (subst (λ (n : Name). n ∈ map name_in ts) (append_cancel_right p.0.name t.name (codes ".csv") e) (in_map name_in p.1))),
  fronted_distinct front ts d.1,
)

-- names have this byte at this place
AreAt : ℕ → ℕ → List Name → Type 0
AreAt place b names = Each names (λ n. get_or n place 0 ≡ b)

fronted_at : (front : Name) (place b : ℕ) (ts : List TableOf) → ((rest : Name) → get_or (front ++ rest) place 0 ≡ b) → AreAt place b (map (fronted front) ts)
unfolding AreAt
fronted_at front place b ts h n m = let p = from_map (fronted front) ts m in ap (λ (k : Name). get_or k place 0) (sym p.2) ∙ h (csv_name p.0.name)

at_both : (place b : ℕ) (xs ys : List Name) → AreAt place b xs → AreAt place b ys → AreAt place b (xs ++ ys)
unfolding AreAt
at_both place b xs ys p q n m = elim (from_append xs m) [ inl k ↦ p n k | inr k ↦ q n k ]

-- names with other bytes at a place are others
apart_at : (place a b : ℕ) (xs ys : List Name) → AreAt place a xs → AreAt place b ys → ¬ (a ≡ b) → (n : Name) → n ∈ xs → ¬ (n ∈ ys)
unfolding AreAt
apart_at place a b xs ys p q d n m k = d (sym (p n m) ∙ q n k)

-- what holds of the names of a direction: they are distinct, and begin with its first byte
record OwnNumbers (first : ℕ) (names : List Name) : Type 0 where
  distinct : Distinct names
  at : AreAt 0 first names

none_own : (first : ℕ) → OwnNumbers first []
unfolding AreAt
none_own first = record { distinct = tt; at = λ n m. elim m [ ] }

-- the fronts of the two sides differ at a place, and both begin with a byte
two_own : (first place : ℕ) (front back : Name) (source target : Forest) → AreTables (tables_of source) → AreTables (tables_of target)
    → ((rest : Name) → get_or (front ++ rest) 0 0 ≡ first) → ((rest : Name) → get_or (back ++ rest) 0 0 ≡ first)
    → ((rest : Name) → get_or (front ++ rest) place 0 ≡ 115) → ((rest : Name) → get_or (back ++ rest) place 0 ≡ 116)
    → OwnNumbers first (map (fronted front) (tables_of source) ++ map (fronted back) (tables_of target))
two_own first place front back source target ss ts a b s t =
    let xs = map (fronted front) (tables_of source) in
    let ys = map (fronted back) (tables_of target) in record {
      distinct = distinct_append xs ys (fronted_distinct front (tables_of source) ss.distinct_names) (fronted_distinct back (tables_of target) ts.distinct_names)
          (apart_at place 115 116 xs ys (fronted_at front place 115 (tables_of source) s) (fronted_at back place 116 (tables_of target) t) (λ e. absurd (omega (arith, e))));
      at = at_both 0 first xs ys (fronted_at front 0 first (tables_of source) a) (fronted_at back 0 first (tables_of target) b);
    }

forward_own : (source target : Forest) (answer : Answer) (fs : List PrintedFile) → AreTables (tables_of source) → AreTables (tables_of target)
    → AreDirectionFiles (codes "forward") source target answer fs → OwnNumbers 102 (names_of fs)
forward_own source target answers.Implies fs ss ts p = subst (λ (xs : List PrintedFile). OwnNumbers 102 (names_of xs)) (sym p) (none_own 102)
forward_own source target (answers.Refuted rule I K) fs ss ts p =
    let front = source_front (codes "forward") in
    let back = target_front (codes "forward") in
    let names = ap names_of p.is ∙ map-append (λ (f : PrintedFile). f.name) p.sources p.targets
    ∙ ap (λ (ns : List Name). ns ++ names_of p.targets) (table_names front 0 (tables_of source) I p.sources p.sources_are)
    ∙ ap (λ (ns : List Name). map (fronted front) (tables_of source) ++ ns) (table_names back 0 (tables_of target) K p.targets p.targets_are) in
    subst (OwnNumbers 102) (sym names) (two_own 102 8 front back source target ss ts (λ r. refl) (λ r. refl) (λ r. refl) (λ r. refl))

backward_own : (source target : Forest) (answer : Answer) (fs : List PrintedFile) → AreTables (tables_of source) → AreTables (tables_of target)
    → AreDirectionFiles (codes "backward") source target answer fs → OwnNumbers 98 (names_of fs)
backward_own source target answers.Implies fs ss ts p = subst (λ (xs : List PrintedFile). OwnNumbers 98 (names_of xs)) (sym p) (none_own 98)
backward_own source target (answers.Refuted rule I K) fs ss ts p =
    let front = source_front (codes "backward") in
    let back = target_front (codes "backward") in
    let names = ap names_of p.is ∙ map-append (λ (f : PrintedFile). f.name) p.sources p.targets
    ∙ ap (λ (ns : List Name). ns ++ names_of p.targets) (table_names front 0 (tables_of source) I p.sources p.sources_are)
    ∙ ap (λ (ns : List Name). map (fronted front) (tables_of source) ++ ns) (table_names back 0 (tables_of target) K p.targets p.targets_are) in
    subst (OwnNumbers 98) (sym names) (two_own 98 9 front back source target ss ts (λ r. refl) (λ r. refl) (λ r. refl) (λ r. refl))

pub names_are_apart : ComparedNamesAreApart
names_are_apart source target c files ss ts p =
    let a = forward_own source target c.forward p.forward ss ts p.forward_are in
    let b = backward_own source target c.backward p.backward ss ts p.backward_are in
    let names = ap names_of p.is ∙ map-append (λ (f : PrintedFile). f.name) p.forward p.backward in
    subst Distinct (sym names)
    (distinct_append (names_of p.forward) (names_of p.backward) a.distinct b.distinct
    (apart_at 0 102 98 (names_of p.forward) (names_of p.backward) a.at b.at (λ e. absurd (omega (arith, e)))))

-- The files of roots, one by one.
use Rattle.std.proofs.Common.{◌≡◌, ℕ, ◌+◌, ◌<◌, ◌≤◌, List, [], ◌∷◌, ◌++◌, Bool, true, false, length, map, refl, sym, subst, ap, ◌∙◌, arith}
use Rattle.std.proofs.Common.{get_or, take, append_assoc}
use Rattle.std.specs.Prelude.{if◌then◌else◌}
use Rattle.std.proofs.lemmas.List.{append-nil, map-append}
use Rattle.dx_instance.specs.Stored.{TableRows}
use Rattle.dx_schema.specs.Forest.{Forest, Tree, forest_of}
use Rattle.dx_schema.specs.Tables.{AreTables, count, level_numbers, tables_of}
use Rattle.dx_schema.proofs.Numbered.{tables_counted}
use Rattle.dx_schema.proofs.Preorder.{count_below, numbers_more}
use Rattle.clio_source.specs.Source.{roots}
use Rattle.clio_files.specs.declared.printed.Printed.{Printed}
use Rattle.clio_files.specs.Files.{printed_view}
use Rattle.clio_files.specs.Nested.{AreRootFiles, IsRootFile}
use Rattle.clio_files.specs.Printing.{AddsRoots}
use Rattle.clio_files.specs.Sheets.{PrintedFile}

-- ---- the next root

-- the next of the sets of the top level has the number of a table
pub root_within : (f : Forest) (ts : List Tree) (k : ℕ) (t : Tree) (root : ℕ) → k < length ts → t ≡ get_or ts k t → forest_of ts ≡ f
    → root ≡ count (forest_of (take k ts)) → root < length (tables_of f)
root_within f ts k t root lt is whole at = omega (arith, count_below ts k t t.inner f lt is refl whole, tables_counted f, at)

-- the sets before it, it and its inner sets are few
pub sets_few : (f : Forest) (ts : List Tree) (k : ℕ) (t : Tree) (root : ℕ) (inner : Forest) → k < length ts → t ≡ get_or ts k t
    → forest_of ts ≡ f → root ≡ count (forest_of (take k ts)) → inner ≡ t.inner → AreTables (tables_of f) → root + (1 + count inner) ≤ 64
sets_few f ts k t root inner lt is whole at same tables =
    omega (arith, count_below ts k t inner f lt is same whole, tables_counted f, tables.few_tables, at)

-- ---- files that are added

roots_joined : (target : Forest) (T : List TableRows) (rs : List ℕ) (fs : List PrintedFile) (r : ℕ) (f : PrintedFile)
    → AreRootFiles target T rs fs → IsRootFile target T r f → AreRootFiles target T (rs ++ r ∷ []) (fs ++ f ∷ [])
roots_joined target T [] [] r f h k = (k, tt)
roots_joined target T [] (g ∷ fs) r f h k = absurd h
roots_joined target T (q ∷ rs) [] r f h k = absurd h
roots_joined target T (q ∷ rs) (g ∷ fs) r f h k = (h.0, roots_joined target T rs fs r f h.1 k)

pub roots_none : (target : Forest) (T : List TableRows) (files : List PrintedFile) → AddsRoots target T [] files files
roots_none target T files = record { files = []; are = tt; is = sym (append-nil files) }

-- the file of one root more
pub roots_more : (target : Forest) (T : List TableRows) (old : List PrintedFile) (ts : List Tree) (k : ℕ) (t : Tree) (root : ℕ)
    (ps qs : List Printed) (p : Printed) → k < length ts → t ≡ get_or ts k t → root ≡ count (forest_of (take k ts))
    → AddsRoots target T (level_numbers 0 (forest_of (take k ts))) old (map printed_view ps) → IsRootFile target T root (printed_view p) → qs ≡ ps ++ p ∷ []
    → AddsRoots target T (level_numbers 0 (forest_of (take (k + 1) ts))) old (map printed_view qs)
roots_more target T old ts k t root ps qs p lt is at a file e =
    let before = level_numbers 0 (forest_of (take k ts)) in
    let files = a.files ++ printed_view p ∷ [] in
    let all : before ++ root ∷ [] ≡ level_numbers 0 (forest_of (take (k + 1) ts)) =
    numbers_more 0 root ts k t before (before ++ root ∷ []) lt is refl (omega (arith, at)) refl in record {
      files = files;
      are = subst (λ rs. AreRootFiles target T rs files) all (roots_joined target T before a.files root (printed_view p) a.are file);
      is = rw (e, map-append printed_view ps (p ∷ []), a.is) (append_assoc old a.files (printed_view p ∷ []));
    }

-- ---- whether they are asked for

pub roots_asked : (nested : Bool) (target : Forest) (T : List TableRows) (old new : List PrintedFile) → nested ≡ true
    → AddsRoots target T (roots target) old new → AddsRoots target T (if nested then roots target else []) old new
roots_asked nested target T old new on a = rw on a

pub none_asked : (nested : Bool) (target : Forest) (T : List TableRows) (old new : List PrintedFile) → nested ≡ false → new ≡ old
    → AddsRoots target T (if nested then roots target else []) old new
none_asked nested target T old new off e = rw (off, e) (roots_none target T old)

-- ---- all files

-- files, those that are added, two more, and documents
pub with_documents : (front tables documents before all : List PrintedFile) (s t : PrintedFile) → before ≡ front ++ (tables ++ s ∷ t ∷ [])
    → all ≡ before ++ documents
    → all ≡ front ++ (tables ++ s ∷ t ∷ documents)
with_documents front tables documents before all s t b a =
    a ∙ ap (λ l. l ++ documents) b ∙ append_assoc front (tables ++ s ∷ t ∷ []) documents
    ∙ ap (λ l. front ++ l) (append_assoc tables (s ∷ t ∷ []) documents)

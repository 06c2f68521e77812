-- The files of texts, and files that are added.
use Rattle.std.proofs.Common.{◌≡◌, ℕ, ◌+◌, ◌<◌, ◌≤◌, List, [], ◌∷◌, ◌++◌, length, map, refl, sym, ◌∙◌, ap, subst, arith, get_or, take}
use Rattle.std.proofs.Common.{flat_map, append_assoc}
use Rattle.std.proofs.lemmas.List.{append-nil, map-append, take_more, take_all}
use Rattle.dx_base.specs.Members.{◌∈◌, Each}
use Rattle.dx_base.proofs.Members.{in_map}
use Rattle.dx_model.specs.declared.rules.Rule.{Rule}
use Rattle.dx_instance.specs.Stored.{TableRows, rows_of}
use Rattle.dx_schema.specs.Forest.{Forest}
use Rattle.dx_schema.specs.Tables.{TableOf}
use Rattle.dx_funcs.specs.declared.conversion.Conversion.{Conversion}
use Rattle.dx_rule_text.specs.Printed.{AtomsWithin, AllListed}
use Rattle.dx_rule_text.proofs.Printing.{atoms_of}
use Rattle.clio_files.specs.declared.printed.Printed.{Printed}
use Rattle.clio_files.specs.Files.{IsTableFile, contents_of, printed_view}
use Rattle.clio_files.specs.Printing.{AddsTables}
use Rattle.clio_files.specs.Sheets.{PrintedFile}
use Rattle.clio_files.specs.Texts.{FitTexts}
use Rattle.clio_files.proofs.SheetLists.{are_more, length_take, two_more}

-- ---- rules whose texts are printed

pub premises_of : (source target : Forest) (list : List Conversion) (R : List Rule) → FitTexts source target list R
    → Each R (λ d. AtomsWithin source d.premise)
premises_of source target list R h d m = atoms_of source d.premise (h.fit d m).premise

pub conclusions_of : (source target : Forest) (list : List Conversion) (R : List Rule) → FitTexts source target list R
    → Each R (λ d. AtomsWithin target d.conclusion)
conclusions_of source target list R h d m = atoms_of target d.conclusion (h.fit d m).conclusion

-- conversions are listed by their codes
pub codes_of : (source target : Forest) (list : List Conversion) (R : List Rule) → FitTexts source target list R
    → Each R (λ d. AllListed list d.derived)
codes_of source target list R h d m e n =
    let l = h.listed d m e n in
    subst (λ code. code ∈ map (λ (c : Conversion). c.code) list) l.2 (in_map (λ (c : Conversion). c.code) l.1)

-- ---- files that are added

pub adds_none : (front : List ℕ) (T : List TableRows) (files : List PrintedFile) → AddsTables front [] T files files
adds_none front T files = record { tables = []; are = tt; is = sym (append-nil files) }

-- the file of one table more
pub adds_more : (front : List ℕ) (ts : List TableOf) (i : ℕ) (d : TableOf) (T : List TableRows) (old : List PrintedFile) (ps qs : List Printed) (p : Printed)
    → i < length ts → AddsTables front (take i ts) T old (map printed_view ps)
    → IsTableFile front (get_or ts i d) (rows_of T i) (printed_view p) → qs ≡ ps ++ p ∷ [] → AddsTables front (take (i + 1) ts) T old (map printed_view qs)
adds_more front ts i d T old ps qs p h a k e =
    let n : 0 + length (take i ts) ≡ i = omega (arith, length_take ts i h) in record {
      tables = a.tables ++ printed_view p ∷ [];
      are = rw (take_more ts i d h) (are_more front 0 (take i ts) T a.tables (get_or ts i d) (printed_view p) a.are
          (subst (λ m. IsTableFile front (get_or ts i d) (rows_of T m) (printed_view p)) (sym n) k));
      is = rw (e, map-append printed_view ps (p ∷ []), a.is) (append_assoc old a.tables (printed_view p ∷ []));
    }

pub adds_all : (front : List ℕ) (ts : List TableOf) (i : ℕ) (T : List TableRows) (old new : List PrintedFile) → length ts ≤ i → AddsTables front (take i ts) T old new
    → AddsTables front ts T old new
adds_all front ts i T old new h a = subst (λ us. AddsTables front us T old new) (take_all i ts h) a

-- ---- all files

-- two files
pub both_files : (none ps qs : List Printed) (a b : Printed) (r s : PrintedFile) → none ≡ [] → printed_view a ≡ r → printed_view b ≡ s → ps ≡ none ++ a ∷ []
    → qs ≡ ps ++ b ∷ [] → map printed_view qs ≡ r ∷ s ∷ []
both_files none ps qs a b r s z f g d e = two_more none ps qs a b r s f g d e ∙ ap (λ l. map printed_view l ++ r ∷ s ∷ []) z

-- files, those that are added, and two more
pub four_parts : (front tables old new all : List PrintedFile) (s t : PrintedFile) → old ≡ front → new ≡ old ++ tables → all ≡ new ++ s ∷ t ∷ []
    → all ≡ front ++ (tables ++ s ∷ t ∷ [])
four_parts front tables old new all s t d e f =
    f ∙ ap (λ l. l ++ s ∷ t ∷ []) (e ∙ ap (λ l. l ++ tables) d) ∙ append_assoc front tables (s ∷ t ∷ [])

-- the bytes of a printed file
abbrev pub printed_bytes : Printed → List ℕ
printed_bytes p = p.file.bytes.items

contents_seen : (ps : List Printed) → flat_map printed_bytes ps ≡ contents_of (map printed_view ps)
contents_seen [] = refl
contents_seen (p ∷ ps) = ap (λ (l : List ℕ). printed_bytes p ++ l) (contents_seen ps)

pub all_contents : (ps : List Printed) (i : ℕ) (text : List ℕ) → length ps ≤ i → text ≡ flat_map printed_bytes (take i ps)
    → text ≡ contents_of (map printed_view ps)
all_contents ps i text h e = e ∙ ap (flat_map printed_bytes) (take_all i ps h) ∙ contents_seen ps

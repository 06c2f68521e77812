-- No two files of an exchange have one name.
use Rattle.std.proofs.Common.{◌≡◌, ◌⊎◌, ℕ, suc, ◌<◌, Bool, true, false, List, [], ◌∷◌, ◌++◌, length, map, get_or, reverse, codes, inl, inr, refl, sym, ◌∙◌, ap, subst, arith}
use Rattle.std.specs.Prelude.{if◌then◌else◌}
use Rattle.std.proofs.lemmas.List.{append_cancel_right, map-append, reverse-append}
use Rattle.dx_base.specs.Members.{◌∈◌, here, there, Distinct, Each}
use Rattle.dx_base.proofs.Members.{from_append, from_map, in_map}
use Rattle.dx_instance.specs.NullMaps.{pairs_of}
use Rattle.dx_instance.specs.Stored.{TableRows}
use Rattle.dx_schema.specs.Forest.{Forest}
use Rattle.dx_schema.specs.Inner.{PlacesAscend}
use Rattle.dx_schema.specs.Tables.{TableOf, schema_table, tables_of, no_table}
use Rattle.clio_source.specs.Source.{csv_name, json_name, roots}
use Rattle.clio_source.proofs.Roots.{is_root, names_differ, no_parent}
use Rattle.clio_files.specs.Files.{AreTableFiles}
use Rattle.clio_files.specs.Laws.{IsFreeName, NamesAreApart}
use Rattle.clio_files.specs.Nested.{AreRootFiles}
use Rattle.clio_files.specs.Sheets.{PrintedFile, file_of, fold_sheet, nulls_sheet}

abbrev pub Name : Type 0
Name = List ℕ

abbrev pub names_of : List PrintedFile → List Name
names_of files = map (λ (f : PrintedFile). f.name) files

abbrev pub name_in : TableOf → Name
name_in t = t.name

abbrev pub csv_of : TableOf → Name
csv_of t = csv_name t.name

-- with this in front
abbrev pub fronted : Name → TableOf → Name
fronted front t = front ++ csv_name t.name

abbrev json_of : Forest → ℕ → Name
json_of target root = json_name (schema_table target root).name

-- ---- tables by their numbers

at_place : (ts : List TableOf) (x : TableOf) → x ∈ ts → (i : ℕ) × (i < length ts) × (get_or ts i no_table ≡ x)
at_place [] x m = elim m [ ]
at_place (t ∷ ts) x (here e) = (0, omega arith, e)
at_place (t ∷ ts) x (there m) = let r = at_place ts x m in let lt = r.1 in (suc r.0, omega (arith, lt), r.2)

free_tables : (target : Forest) → ((t : ℕ) → t < length (tables_of target) → IsFreeName (schema_table target t).name)
    → Each (tables_of target) (λ (t : TableOf). IsFreeName t.name)
free_tables target free x m = let r = at_place (tables_of target) x m in subst (λ (t : TableOf). IsFreeName t.name) r.2 (free r.0 r.1)

-- ---- the names of the files

pub table_names : (front : Name) (n : ℕ) (ts : List TableOf) (T : List TableRows) (fs : List PrintedFile) → AreTableFiles front n ts T fs
    → names_of fs ≡ map (fronted front) ts
table_names front n [] T [] p = refl
table_names front n [] T (f ∷ fs) p = absurd p
table_names front n (t ∷ ts) T [] p = absurd p
table_names front n (t ∷ ts) T (f ∷ fs) p =
    let first = p.0.name in
    let rest = table_names front (suc n) ts T fs p.1 in
    (λ i. first i ∷ rest i)

root_names : (target : Forest) (T : List TableRows) (rs : List ℕ) (fs : List PrintedFile) → AreRootFiles target T rs fs
    → names_of fs ≡ map (json_of target) rs
root_names target T [] [] p = refl
root_names target T [] (f ∷ fs) p = absurd p
root_names target T (r ∷ rs) [] p = absurd p
root_names target T (r ∷ rs) (f ∷ fs) p =
    let first = p.0.name in
    let rest = root_names target T rs fs p.1 in
    (λ i. first i ∷ rest i)

-- ---- their last bytes tell the kinds apart

abbrev last : Name → ℕ
last n = get_or (reverse n) 0 0

last_csv : (ts : List TableOf) (n : Name) → n ∈ map csv_of ts → last n ≡ 118
last_csv ts n m =
    let p = from_map csv_of ts m in
    ap last (sym p.2) ∙ ap (λ (v : Name). get_or v 0 0) (reverse-append p.0.name (codes ".csv"))

last_json : (target : Forest) (rs : List ℕ) (n : Name) → n ∈ map (json_of target) rs → last n ≡ 110
last_json target rs n m =
    let p = from_map (json_of target) rs m in
    ap last (sym p.2) ∙ ap (λ (v : Name). get_or v 0 0) (reverse-append (schema_table target p.0).name (codes ".json"))

-- ---- distinct names

pub distinct_append : (xs ys : List Name) → Distinct xs → Distinct ys → ((x : Name) → x ∈ xs → ¬ (x ∈ ys)) → Distinct (xs ++ ys)
distinct_append [] ys a b c = b
distinct_append (x ∷ xs) ys a b c = (
  (λ m. elim (from_append xs m) [ inl k ↦ a.0 k | inr k ↦ c x (here refl) k ]),
  distinct_append xs ys a.1 b (λ y m. c y (there m)),
)

pub csv_distinct : (ts : List TableOf) → Distinct (map name_in ts) → Distinct (map csv_of ts)
csv_distinct [] d = tt
csv_distinct (t ∷ ts) d = (
  (λ m.
      let p = from_map csv_of ts m in
      d.0 (subst (λ (n : Name). n ∈ map name_in ts) (append_cancel_right p.0.name t.name (codes ".csv") p.2) (in_map name_in p.1))),
  csv_distinct ts d.1,
)

json_distinct : (target : Forest) (rs : List ℕ) → Distinct (map name_in (tables_of target)) → PlacesAscend rs
    → Each rs (λ r. r < length (tables_of target)) → Distinct (map (json_of target) rs)
json_distinct target [] d up within = tt
json_distinct target (r ∷ rs) d up within = (
  (λ m.
      let p = from_map (json_of target) rs m in
      let e = append_cancel_right (schema_table target p.0).name (schema_table target r).name (codes ".json") p.2 in
      names_differ target r p.0 d (up.0 p.0 p.1) (within p.0 (there p.1)) (sym e)),
  json_distinct target rs d up.1 (λ u m. within u (there m)),
)

asked_distinct : (nested : Bool) (target : Forest) → Distinct (map name_in (tables_of target))
    → Distinct (map (json_of target) (if nested then roots target else []))
asked_distinct true target d = json_distinct target (roots target) d (no_parent target).ascending (λ r m. (is_root target r m).within)
asked_distinct false target d = tt

module _ (ts : List TableOf) (target : Forest) (rs : List ℕ) where
  -- the names of the tables' files, of the two files about nulls, and of the documents
  abbrev rest_of : List Name
  rest_of = map csv_of ts ++ codes "nulls.csv" ∷ codes "fold.csv" ∷ map (json_of target) rs

  last_of : (n : Name) → n ∈ rest_of → (last n ≡ 118) ⊎ (last n ≡ 110)
  last_of n m = elim (from_append (map csv_of ts) m) [
    | inl k ↦ inl (last_csv ts n k)
    | inr k ↦ elim k [
      | here e ↦ inl (sym (ap last e))
      | there k ↦ elim k [ here e ↦ inl (sym (ap last e)) | there k ↦ inr (last_json target rs n k) ]
    ]
  ]

  -- another last byte than theirs
  other_end : (n : Name) (b : ℕ) → last n ≡ b → ¬ (b ≡ 118) → ¬ (b ≡ 110) → ¬ (n ∈ rest_of)
  other_end n b e v j m = elim (last_of n m) [ inl k ↦ v (sym e ∙ k) | inr k ↦ j (sym e ∙ k) ]

  no_document : (n : Name) → last n ≡ 118 → ¬ (n ∈ map (json_of target) rs)
  no_document n e m = let k = last_json target rs n m in absurd (omega (arith, e, k))

  free_from : Each ts (λ (t : TableOf). IsFreeName t.name) → (n : Name) → n ∈ map csv_of ts
      → ¬ (n ∈ (codes "nulls.csv" ∷ codes "fold.csv" ∷ map (json_of target) rs))
  free_from free n m k =
      let p = from_map csv_of ts m in
      elim k [
        | here e ↦ (free p.0 p.1).0 (append_cancel_right p.0.name (codes "nulls") (codes ".csv") (p.2 ∙ sym e))
        | there k ↦ elim k [
          | here e ↦ (free p.0 p.1).1 (append_cancel_right p.0.name (codes "fold") (codes ".csv") (p.2 ∙ sym e))
          | there k ↦ no_document n (last_csv ts n m) k
        ]
      ]

  two_apart : ¬ (codes "nulls.csv" ∈ (codes "fold.csv" ∷ map (json_of target) rs))
  two_apart (here e) = let h : 102 ≡ 110 = ap (λ (n : Name). get_or n 0 0) e in absurd (omega (arith, h))
  two_apart (there m) = no_document (codes "nulls.csv") refl m

  pub rest_distinct : Distinct (map name_in ts) → Each ts (λ (t : TableOf). IsFreeName t.name) → Distinct (map (json_of target) rs) → Distinct rest_of
  rest_distinct d free documents = distinct_append (map csv_of ts) (codes "nulls.csv" ∷ codes "fold.csv" ∷ map (json_of target) rs) (csv_distinct ts d)
      (two_apart, (no_document (codes "fold.csv") refl, documents)) (free_from free)

  pub all_distinct : Distinct rest_of → Distinct (codes "rules.txt" ∷ codes "script.sql" ∷ rest_of)
  all_distinct rest = (not_rules, (other_end (codes "script.sql") 108 refl (λ e. absurd (omega (arith, e))) (λ e. absurd (omega (arith, e))), rest))
    where
      not_rules : ¬ (codes "rules.txt" ∈ (codes "script.sql" ∷ rest_of))
      not_rules (here e) = let h : 115 ≡ 114 = ap (λ (n : Name). get_or n 0 0) e in absurd (omega (arith, h))
      not_rules (there m) = other_end (codes "rules.txt") 116 refl (λ e. absurd (omega (arith, e))) (λ e. absurd (omega (arith, e))) m

pub names_are_apart : NamesAreApart
names_are_apart source target list mode nested R e files tables free p =
    let ts = tables_of target in
    let rs = if nested then roots target else [] in
    let about = file_of (nulls_sheet R e.matches p.nulls) in
    let folded = file_of (fold_sheet (pairs_of e.fold)) in
    let first : names_of p.tables ≡ map csv_of ts = table_names [] 0 ts e.target p.tables p.tables_are in
    let documents = root_names target e.target rs p.documents p.documents_are in
    let rest = map-append (λ (f : PrintedFile). f.name) p.tables (about ∷ folded ∷ p.documents)
    ∙ ap (λ (ns : List Name). ns ++ codes "nulls.csv" ∷ codes "fold.csv" ∷ names_of p.documents) first
    ∙ ap (λ (ns : List Name). map csv_of ts ++ codes "nulls.csv" ∷ codes "fold.csv" ∷ ns) documents in
    let names = ap names_of p.is ∙ ap (λ (ns : List Name). codes "rules.txt" ∷ codes "script.sql" ∷ ns) rest in
    let apart = rest_distinct ts target rs tables.distinct_names (free_tables target free) (asked_distinct nested target tables.distinct_names) in
    subst Distinct (sym names) (all_distinct ts target rs apart)

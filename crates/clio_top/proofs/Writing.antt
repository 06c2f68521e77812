-- What the call that makes the files of an exchange takes.
use Rattle.std.proofs.Common.{◌≡◌, ℕ, List, [], ◌∷◌, ◌++◌, refl, sym, subst, inl, inr, Option, Some, None}
use Rattle.std.specs.Prelude.{codes}
use Rattle.csv.specs.Reading.{strip_bom}
use Rattle.dx_base.specs.Members.{Each, here, there}
use Rattle.dx_base.proofs.Members.{from_append, from_map}
use Rattle.dx_instance.specs.Stored.{widths}
use Rattle.dx_schema.specs.Forest.{Forest, none, set}
use Rattle.dx_schema.specs.Tables.{NumberedSet, TableOf, columns_of, numbered_sets, schema_widths, sets_of, table_in, where_has_inner, where_inner}
use Rattle.dx_schema_text.specs.Print.{HaveWordNames, AreNames}
use Rattle.dx_tokens.specs.Lexing.{IsWord}
use Rattle.dx_csv.specs.Print.{HasNoMark}
use Rattle.dx_exchange.specs.declared.result.Exchange.{Exchange}
use Rattle.clio_accept.specs.declared.mapping.Mapping.{Mapping}
use Rattle.clio_files.specs.Files.{FitsFiles}
use Rattle.clio_top.specs.FilesOf.{ExchangesCanBeWritten, HaveColumnNames, IsColumnName, NullsHaveTexts}
use Rattle.clio_steps.proofs.Plans.{files_fit, texts_fit, word_unmarked}

-- ---- columns have names without a mark

name_unmarked : (name : List ℕ) → IsColumnName name → strip_bom name ≡ name
unfolding strip_bom
name_unmarked name (inl word) = word_unmarked name word
name_unmarked name (inr (inl is)) = subst (λ n. strip_bom n ≡ n) (sym is) refl
name_unmarked name (inr (inr is)) = subst (λ n. strip_bom n ≡ n) (sym is) refl

columns_unmarked : (columns : List (List ℕ)) → Each columns IsColumnName → HasNoMark columns
columns_unmarked [] h = tt
columns_unmarked (c ∷ cs) h = name_unmarked c (h c (here refl))

pub fits_files : (M : Mapping) (e : Exchange) → HaveColumnNames M.target → widths e.target ≡ schema_widths M.target → NullsHaveTexts M e
    → FitsFiles M.rules M.target e
fits_files M e names wide nulls = record { widths_are = wide; no_marks = λ t m. columns_unmarked t.columns (names t m); places = nulls }

-- ---- the columns of an accepted mapping's tables

words_are : (names : List (List ℕ)) → AreNames names → Each names IsColumnName
words_are [] h name m = absurd h
words_are (n ∷ ns) h name (here e) = inl (subst IsWord e h.0)
words_are (n ∷ ns) h name (there m) = inl (h.1 name m)

one_of : (name : List ℕ) → IsColumnName name → Each (name ∷ []) IsColumnName
one_of name h x (here e) = subst IsColumnName e h
one_of name h x (there m) = elim m [ ]

both : (xs ys : List (List ℕ)) → Each xs IsColumnName → Each ys IsColumnName → Each (xs ++ ys) IsColumnName
both xs ys a b x m = elim (from_append xs m) [ inl k ↦ a x k | inr k ↦ b x k ]

set_columns : (s : NumberedSet) → AreNames s.label.columns → Each (columns_of s) IsColumnName
set_columns s names = both (where_has_inner s.inner (codes "#id")) _ (id_columns s.inner) (both (where_inner s.parent (codes "#up")) s.label.columns (up_columns s.parent) (words_are s.label.columns names))
  where
    id_columns : (inner : Forest) → Each (where_has_inner inner (codes "#id")) IsColumnName
    id_columns none x m = elim m [ ]
    id_columns (set l i r) x m = one_of (codes "#id") (inr (inl refl)) x m

    up_columns : (parent : Option ℕ) → Each (where_inner parent (codes "#up")) IsColumnName
    up_columns None x m = elim m [ ]
    up_columns (Some p) x m = one_of (codes "#up") (inr (inr refl)) x m

placed_columns : (parent : Option ℕ) (n : ℕ) (f : Forest) → HaveWordNames f → Each (numbered_sets parent n f) (λ s. Each (columns_of s) IsColumnName)
placed_columns parent n none h s m = elim m [ ]
placed_columns parent n (set l inner rest) h s (here e) =
    subst (λ t. Each (columns_of t) IsColumnName) e (set_columns (record { label = l; number = n; parent = parent; inner = inner }) h.0.columns)
placed_columns parent n (set l inner rest) h s (there m) = elim (from_append (numbered_sets (Some n) _ inner) m) [
  | inl k ↦ placed_columns (Some n) _ inner h.1 s k
  | inr k ↦ placed_columns parent _ rest h.2 s k
]

have_names : (f : Forest) → HaveWordNames f → HaveColumnNames f
have_names f h t m =
    let p = from_map (table_in (sets_of f)) (sets_of f) m in
    subst (λ (u : TableOf). Each u.columns IsColumnName) p.2 (placed_columns None 0 f h p.0 p.1)

pub can_be_written : ExchangesCanBeWritten
can_be_written P mode M rows e fits x =
    let files = files_fit P mode M rows e fits x in
    record { rules = texts_fit P M fits; names = have_names M.target fits.target_names; widths_are = files.widths_are; nulls = files.places }

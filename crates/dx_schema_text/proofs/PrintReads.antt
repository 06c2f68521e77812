-- Printed sets are read again.
use Rattle.std.proofs.Common.{◌≡◌, ℕ, zero, suc, ◌≤◌, Bool, true, false, List, [], ◌∷◌, ◌++◌, map, refl, sym, ap, ◌∙◌, subst, append_assoc, arith}
use Rattle.std.specs.Prelude.{IsTrue, codes}
use Rattle.std.specs.List.{flat_map}
use Rattle.std.proofs.lemmas.List.{append-nil}
use Rattle.dx_base.specs.Members.{here, there, Each}
use Rattle.dx_tokens.specs.declared.tokenizer.TokenKind.TheVariants.{Word, Number}
use Rattle.dx_tokens.specs.declared.scanner.Lexeme.{Lexeme}
use Rattle.dx_tokens.specs.Tokens.{is_blank, is_digit}
use Rattle.dx_tokens.specs.Lexing as lexing
use Rattle.dx_grammar.specs.Readers.{Many, no_more, one_more}
use Rattle.dx_schema.specs.declared.sets.KeyDecl.{KeyDecl}
use Rattle.dx_schema.specs.declared.sets.DepDecl.{DepDecl}
use Rattle.dx_schema.specs.declared.sets.RefDecl.{RefDecl}
use Rattle.dx_schema.specs.Forest.{Label, Forest, none, set, Tree, forest_of}
use Rattle.dx_schema.specs.Faults.{depth}
use Rattle.dx_schema_text.specs.declared.clauses.Clause.{Clause}
use Rattle.dx_schema_text.specs.Reading.{key_clause, dep_clause, ref_clause, set_clause, keys_among, deps_among, refs_among, sets_among, tree_of_clauses}
use Rattle.dx_schema_text.specs.Grammar.{word_is, since_two, since_three}
use Rattle.dx_schema_text.specs.Spelling.{IsMarkToken, IsWordToken, Comma, comma_then, SpellsCommaList, parted, SpellsName, name_of, SpellsKey, key_of, SpellsDep, dep_of, SpellsOptional, not_optional, is_optional, SpellsRef, ref_of, SpellsHead, head_of, SpellsSet, set_of, SpellsClauses, no_clause, clause_first, a_key, a_dep, a_ref, a_set, SpellsSide, side_of, IsVersion, version_one, version_two, version_three, SpellsMapping, mapping_of}
use Rattle.dx_schema_text.specs.Texts.{deepest, IsMappingText}
use Rattle.dx_schema_text.specs.Print.{names_text, optional_text, wider, key_line, dep_line, ref_line, head_lines, front_lines, last_line, printed, AreNames, IsNamedDep, IsNamedRef, HasWordNames, HaveWordNames, IsOfVersion, FitsVersion, AreWritable, IsKnownVersion, the_first, the_second, the_third, digit_of, sides_text, sides, IsReadAgain}
use Rattle.dx_schema_text.proofs.PrintScans.{Reads, EndsWord, lexeme, no_token, token_then, word_then, mark_then, blanks_then, both_then, told_as, each_passes, a_word, each_append, reads_all}

abbrev AllBlanked : List ℕ → Type 0
AllBlanked bs = Each bs (λ b. IsTrue (is_blank b))

-- ---- names

abbrev others_text : List (List ℕ) → List ℕ
others_text names = flat_map (λ other. codes ", " ++ other) names

comma_name : (x y : Lexeme) (names : List (List ℕ)) (v : List Lexeme) → IsMarkToken (codes ",") x → IsWordToken y → Many (Comma SpellsName) names v → Many (Comma SpellsName) (y.text ∷ names) (x ∷ y ∷ v)
comma_name x y names v m w h = one_more (comma_then x m (name_of y w)) h

first_name : (y : Lexeme) (names : List (List ℕ)) (v : List Lexeme) → IsWordToken y → Many (Comma SpellsName) names v → SpellsCommaList SpellsName (y.text ∷ names) (y ∷ v)
first_name y names v w h = parted (name_of y w) h

-- no word goes on before a comma, nor before what ends a word
ends_before : (names : List (List ℕ)) (more : List ℕ) → EndsWord more → EndsWord (others_text names ++ more)
ends_before [] more ends = ends
ends_before (name ∷ names) more ends = refl

others_read : (names : List (List ℕ)) (place : ℕ) (more : List ℕ) → Each names lexing.IsWord → EndsWord more → Reads (Many (Comma SpellsName) names) place (others_text names ++ more) more
others_read [] place more each ends = no_token _ place more no_more
others_read (name ∷ names) place more each ends =
    subst (λ (text : List ℕ). Reads (Many (Comma SpellsName) (name ∷ names)) place (44 ∷ 32 ∷ text) more) (sym (append_assoc name (others_text names) more))
    (mark_then _ (codes ",") _ more place refl
    (blanks_then _ (codes " ") _ more _ (each_passes is_blank (codes " ") refl)
    (word_then _ name (others_text names ++ more) more _ (each name (here refl)) (ends_before names more ends)
    (told_as (Many (Comma SpellsName) names) _ _ more _ (others_read names _ more (λ n m. each n (there m)) ends) (λ v h. comma_name _ _ names v refl refl h)))))

names_read : (names : List (List ℕ)) (place : ℕ) (more : List ℕ) → AreNames names → EndsWord more → Reads (SpellsCommaList SpellsName names) place (names_text names ++ more) more
names_read [] place more h ends = absurd h
names_read (name ∷ names) place more h ends =
    subst (λ (text : List ℕ). Reads (SpellsCommaList SpellsName (name ∷ names)) place text more) (sym (append_assoc name (others_text names) more))
    (word_then _ name (others_text names ++ more) more place h.0 (ends_before names more ends)
    (told_as (Many (Comma SpellsName) names) _ _ more _ (others_read names _ more h.1 ends) (λ v m. first_name _ names v refl m)))

-- ---- keys, dependencies and refs

key_flat : (margin : List ℕ) (k : KeyDecl) (tail : List ℕ) → key_line margin k ++ tail ≡ margin ++ (codes "key (" ++ (names_text k.columns ++ (codes ");\n" ++ tail)))
key_flat margin k tail = simp append_assoc

key_read : (margin : List ℕ) (k : KeyDecl) (place : ℕ) (tail : List ℕ) → AllBlanked margin → AreNames k.columns → Reads (SpellsKey k) place (key_line margin k ++ tail) tail
key_read margin k place tail blank named =
    subst (λ (text : List ℕ). Reads (SpellsKey k) place text tail) (sym (key_flat margin k tail))
    (blanks_then _ margin _ tail place blank
    (word_then _ (codes "key") _ tail _ (a_word (codes "key") refl) refl
    (blanks_then _ (codes " ") _ tail _ (each_passes is_blank (codes " ") refl)
    (mark_then _ (codes "(") _ tail _ refl
    (both_then (SpellsCommaList SpellsName k.columns) _ _ _ tail _ (names_read k.columns _ (codes ");\n" ++ tail) named refl) (λ u after h.
    mark_then _ (codes ")") _ tail _ refl
    (mark_then _ (codes ";") _ tail _ refl
    (blanks_then _ (codes "\n") tail tail _ (each_passes is_blank (codes "\n") refl)
    (no_token _ _ tail (key_of _ _ _ _ refl refl h refl refl))))))))))

dep_flat : (margin : List ℕ) (d : DepDecl) (tail : List ℕ) → dep_line margin d ++ tail ≡ margin ++ (codes "dep (" ++ (names_text d.columns ++ (codes ") -> (" ++ (names_text d.decides ++ (codes ");\n" ++ tail)))))
dep_flat margin d tail = simp append_assoc

dep_read : (margin : List ℕ) (d : DepDecl) (place : ℕ) (tail : List ℕ) → AllBlanked margin → IsNamedDep d → Reads (SpellsDep d) place (dep_line margin d ++ tail) tail
dep_read margin d place tail blank named =
    subst (λ (text : List ℕ). Reads (SpellsDep d) place text tail) (sym (dep_flat margin d tail))
    (blanks_then _ margin _ tail place blank
    (word_then _ (codes "dep") _ tail _ (a_word (codes "dep") refl) refl
    (blanks_then _ (codes " ") _ tail _ (each_passes is_blank (codes " ") refl)
    (mark_then _ (codes "(") _ tail _ refl
    (both_then (SpellsCommaList SpellsName d.columns) _ _ _ tail _ (names_read d.columns _ (codes ") -> (" ++ (names_text d.decides ++ (codes ");\n" ++ tail))) named.columns refl) (λ u after h.
    mark_then _ (codes ")") _ tail _ refl
    (blanks_then _ (codes " ") _ tail _ (each_passes is_blank (codes " ") refl)
    (mark_then _ (codes "->") _ tail _ refl
    (blanks_then _ (codes " ") _ tail _ (each_passes is_blank (codes " ") refl)
    (mark_then _ (codes "(") _ tail _ refl
    (both_then (SpellsCommaList SpellsName d.decides) _ _ _ tail _ (names_read d.decides _ (codes ");\n" ++ tail) named.decides refl) (λ v behind g.
    mark_then _ (codes ")") _ tail _ refl
    (mark_then _ (codes ";") _ tail _ refl
    (blanks_then _ (codes "\n") tail tail _ (each_passes is_blank (codes "\n") refl)
    (no_token _ _ tail (dep_of _ _ _ _ _ _ _ refl refl h refl refl refl g refl refl))))))))))))))))

no_optional : ¬ (false ≡ true)
no_optional e = absurd cc

-- the end of a ref, after its last bracket
optional_end : (b : Bool) (optionals : Bool) (place : ℕ) (tail : List ℕ) → (b ≡ true → optionals ≡ true) → (R : List Lexeme → Type 0) → ((w : List Lexeme) (e : Lexeme) → SpellsOptional optionals b w → IsMarkToken (codes ";") e → R (w ++ e ∷ []))
    → Reads R place (optional_text b ++ (codes ";\n" ++ tail)) tail
optional_end false optionals place tail sayable R made =
    mark_then _ (codes ";") _ tail _ refl
    (blanks_then _ (codes "\n") tail tail _ (each_passes is_blank (codes "\n") refl)
    (no_token _ _ tail (made [] _ not_optional refl)))
optional_end true true place tail sayable R made =
    blanks_then _ (codes " ") _ tail _ (each_passes is_blank (codes " ") refl)
    (word_then _ (codes "optional") _ tail _ (a_word (codes "optional") refl) refl
    (mark_then _ (codes ";") _ tail _ refl
    (blanks_then _ (codes "\n") tail tail _ (each_passes is_blank (codes "\n") refl)
    (no_token _ _ tail (made (_ ∷ []) _ (is_optional _ refl) refl)))))
optional_end true false place tail sayable R made = absurd (no_optional (sayable refl))

ref_flat : (margin : List ℕ) (r : RefDecl) (tail : List ℕ)
    → ref_line margin r ++ tail ≡ margin ++ (codes "ref (" ++ (names_text r.columns ++ (codes ") -> " ++ (r.set ++ (codes " (" ++ (names_text r.referred ++ (codes ")" ++ (optional_text r.optional ++ (codes ";\n" ++ tail)))))))))
ref_flat margin r tail = simp append_assoc

ref_read : (margin : List ℕ) (r : RefDecl) (optionals : Bool) (place : ℕ) (tail : List ℕ) → AllBlanked margin → IsNamedRef r → (r.optional ≡ true → optionals ≡ true) → Reads (SpellsRef optionals r) place (ref_line margin r ++ tail) tail
ref_read margin r optionals place tail blank named sayable =
    let end = optional_text r.optional ++ (codes ";\n" ++ tail) in
    subst (λ (text : List ℕ). Reads (SpellsRef optionals r) place text tail) (sym (ref_flat margin r tail))
    (blanks_then _ margin _ tail place blank
    (word_then _ (codes "ref") _ tail _ (a_word (codes "ref") refl) refl
    (blanks_then _ (codes " ") _ tail _ (each_passes is_blank (codes " ") refl)
    (mark_then _ (codes "(") _ tail _ refl
    (both_then (SpellsCommaList SpellsName r.columns) _ _ _ tail _ (names_read r.columns _ (codes ") -> " ++ (r.set ++ (codes " (" ++ (names_text r.referred ++ (codes ")" ++ end))))) named.columns refl) (λ u after h.
    mark_then _ (codes ")") _ tail _ refl
    (blanks_then _ (codes " ") _ tail _ (each_passes is_blank (codes " ") refl)
    (mark_then _ (codes "->") _ tail _ refl
    (blanks_then _ (codes " ") _ tail _ (each_passes is_blank (codes " ") refl)
    (word_then _ r.set _ tail _ named.refers refl
    (blanks_then _ (codes " ") _ tail _ (each_passes is_blank (codes " ") refl)
    (mark_then _ (codes "(") _ tail _ refl
    (both_then (SpellsCommaList SpellsName r.referred) _ _ _ tail _ (names_read r.referred _ (codes ")" ++ end) named.referred refl) (λ v behind g.
    mark_then _ (codes ")") _ tail _ refl
    (optional_end r.optional optionals _ tail sayable _ (λ w e is ew. ref_of _ _ _ _ _ _ _ _ refl refl h refl refl refl refl g refl is ew))))))))))))))))

-- keys before other clauses, dependencies, and refs
keys_read : (version levels : ℕ) (margin : List ℕ) (ks : List KeyDecl) (cs : List Clause) (tail more : List ℕ) → AllBlanked margin → Each ks (λ k. AreNames k.columns) → ((p : ℕ) → Reads (SpellsClauses version levels cs) p tail more)
    → (place : ℕ) → Reads (SpellsClauses version levels (map key_clause ks ++ cs)) place (flat_map (key_line margin) ks ++ tail) more
keys_read version levels margin [] cs tail more blank each on place = on place
keys_read version levels margin (k ∷ ks) cs tail more blank each on place =
    subst (λ (text : List ℕ). Reads (SpellsClauses version levels (map key_clause (k ∷ ks) ++ cs)) place text more) (sym (append_assoc (key_line margin k) (flat_map (key_line margin) ks) tail))
    (both_then (SpellsKey k) _ _ _ more place (key_read margin k place _ blank (each k (here refl))) (λ u after h.
    told_as (SpellsClauses version levels (map key_clause ks ++ cs)) _ _ more after (keys_read version levels margin ks cs tail more blank (λ x m. each x (there m)) on after) (λ v c. clause_first (a_key h) c)))

deps_read : (version levels : ℕ) (margin : List ℕ) (ds : List DepDecl) (cs : List Clause) (tail more : List ℕ) → AllBlanked margin → Each ds IsNamedDep → Each ds (λ d. since_three version ≡ true) → ((p : ℕ) → Reads (SpellsClauses version levels cs) p tail more)
    → (place : ℕ) → Reads (SpellsClauses version levels (map dep_clause ds ++ cs)) place (flat_map (dep_line margin) ds ++ tail) more
deps_read version levels margin [] cs tail more blank each sayable on place = on place
deps_read version levels margin (d ∷ ds) cs tail more blank each sayable on place =
    subst (λ (text : List ℕ). Reads (SpellsClauses version levels (map dep_clause (d ∷ ds) ++ cs)) place text more) (sym (append_assoc (dep_line margin d) (flat_map (dep_line margin) ds) tail))
    (both_then (SpellsDep d) _ _ _ more place (dep_read margin d place _ blank (each d (here refl))) (λ u after h.
    told_as (SpellsClauses version levels (map dep_clause ds ++ cs)) _ _ more after (deps_read version levels margin ds cs tail more blank (λ x m. each x (there m)) (λ x m. sayable x (there m)) on after) (λ v c. clause_first (a_dep (sayable d (here refl)) h) c)))

refs_read : (version levels : ℕ) (margin : List ℕ) (rs : List RefDecl) (cs : List Clause) (tail more : List ℕ) → AllBlanked margin → Each rs IsNamedRef → Each rs (λ r. r.optional ≡ true → since_two version ≡ true)
    → ((p : ℕ) → Reads (SpellsClauses version levels cs) p tail more)
    → (place : ℕ) → Reads (SpellsClauses version levels (map ref_clause rs ++ cs)) place (flat_map (ref_line margin) rs ++ tail) more
refs_read version levels margin [] cs tail more blank each sayable on place = on place
refs_read version levels margin (r ∷ rs) cs tail more blank each sayable on place =
    subst (λ (text : List ℕ). Reads (SpellsClauses version levels (map ref_clause (r ∷ rs) ++ cs)) place text more) (sym (append_assoc (ref_line margin r) (flat_map (ref_line margin) rs) tail))
    (both_then (SpellsRef (since_two version) r) _ _ _ more place (ref_read margin r (since_two version) place _ blank (each r (here refl)) (sayable r (here refl))) (λ u after h.
    told_as (SpellsClauses version levels (map ref_clause rs ++ cs)) _ _ more after (refs_read version levels margin rs cs tail more blank (λ x m. each x (there m)) (λ x m. sayable x (there m)) on after) (λ v c. clause_first (a_ref h) c)))

-- ---- the clauses of a set

abbrev set_clauses : Forest → List Clause
set_clauses none = []
set_clauses (set l inner rest) = set_clause (record { label = l; inner = inner }) ∷ set_clauses rest

abbrev clauses_of : Label → Forest → List Clause
clauses_of l inner = map key_clause l.keys ++ (map dep_clause l.deps ++ (map ref_clause l.refs ++ set_clauses inner))

keys_of_keys : (ks : List KeyDecl) (cs : List Clause) → keys_among (map key_clause ks ++ cs) ≡ ks ++ keys_among cs
keys_of_keys [] cs = refl
keys_of_keys (k ∷ ks) cs = ap (λ xs. k ∷ xs) (keys_of_keys ks cs)

keys_of_deps : (ds : List DepDecl) (cs : List Clause) → keys_among (map dep_clause ds ++ cs) ≡ keys_among cs
keys_of_deps [] cs = refl
keys_of_deps (d ∷ ds) cs = keys_of_deps ds cs

keys_of_refs : (rs : List RefDecl) (cs : List Clause) → keys_among (map ref_clause rs ++ cs) ≡ keys_among cs
keys_of_refs [] cs = refl
keys_of_refs (r ∷ rs) cs = keys_of_refs rs cs

keys_of_sets : (f : Forest) → keys_among (set_clauses f) ≡ []
keys_of_sets none = refl
keys_of_sets (set l i r) = keys_of_sets r

deps_of_keys : (ks : List KeyDecl) (cs : List Clause) → deps_among (map key_clause ks ++ cs) ≡ deps_among cs
deps_of_keys [] cs = refl
deps_of_keys (k ∷ ks) cs = deps_of_keys ks cs

deps_of_deps : (ds : List DepDecl) (cs : List Clause) → deps_among (map dep_clause ds ++ cs) ≡ ds ++ deps_among cs
deps_of_deps [] cs = refl
deps_of_deps (d ∷ ds) cs = ap (λ xs. d ∷ xs) (deps_of_deps ds cs)

deps_of_refs : (rs : List RefDecl) (cs : List Clause) → deps_among (map ref_clause rs ++ cs) ≡ deps_among cs
deps_of_refs [] cs = refl
deps_of_refs (r ∷ rs) cs = deps_of_refs rs cs

deps_of_sets : (f : Forest) → deps_among (set_clauses f) ≡ []
deps_of_sets none = refl
deps_of_sets (set l i r) = deps_of_sets r

refs_of_keys : (ks : List KeyDecl) (cs : List Clause) → refs_among (map key_clause ks ++ cs) ≡ refs_among cs
refs_of_keys [] cs = refl
refs_of_keys (k ∷ ks) cs = refs_of_keys ks cs

refs_of_deps : (ds : List DepDecl) (cs : List Clause) → refs_among (map dep_clause ds ++ cs) ≡ refs_among cs
refs_of_deps [] cs = refl
refs_of_deps (d ∷ ds) cs = refs_of_deps ds cs

refs_of_refs : (rs : List RefDecl) (cs : List Clause) → refs_among (map ref_clause rs ++ cs) ≡ rs ++ refs_among cs
refs_of_refs [] cs = refl
refs_of_refs (r ∷ rs) cs = ap (λ xs. r ∷ xs) (refs_of_refs rs cs)

refs_of_sets : (f : Forest) → refs_among (set_clauses f) ≡ []
refs_of_sets none = refl
refs_of_sets (set l i r) = refs_of_sets r

sets_of_keys : (ks : List KeyDecl) (cs : List Clause) → sets_among (map key_clause ks ++ cs) ≡ sets_among cs
sets_of_keys [] cs = refl
sets_of_keys (k ∷ ks) cs = sets_of_keys ks cs

sets_of_deps : (ds : List DepDecl) (cs : List Clause) → sets_among (map dep_clause ds ++ cs) ≡ sets_among cs
sets_of_deps [] cs = refl
sets_of_deps (d ∷ ds) cs = sets_of_deps ds cs

sets_of_refs : (rs : List RefDecl) (cs : List Clause) → sets_among (map ref_clause rs ++ cs) ≡ sets_among cs
sets_of_refs [] cs = refl
sets_of_refs (r ∷ rs) cs = sets_of_refs rs cs

sets_of_sets : (f : Forest) → sets_among (set_clauses f) ≡ f
sets_of_sets none = refl
sets_of_sets (set l i r) = ap (λ f. set l i f) (sets_of_sets r)

keys_are : (l : Label) (inner : Forest) → keys_among (clauses_of l inner) ≡ l.keys
keys_are l inner =
    keys_of_keys l.keys (map dep_clause l.deps ++ (map ref_clause l.refs ++ set_clauses inner))
    ∙ ap (λ xs. l.keys ++ xs) (keys_of_deps l.deps (map ref_clause l.refs ++ set_clauses inner) ∙ keys_of_refs l.refs (set_clauses inner) ∙ keys_of_sets inner) ∙ append-nil l.keys

deps_are : (l : Label) (inner : Forest) → deps_among (clauses_of l inner) ≡ l.deps
deps_are l inner =
    deps_of_keys l.keys (map dep_clause l.deps ++ (map ref_clause l.refs ++ set_clauses inner)) ∙ deps_of_deps l.deps (map ref_clause l.refs ++ set_clauses inner)
    ∙ ap (λ xs. l.deps ++ xs) (deps_of_refs l.refs (set_clauses inner) ∙ deps_of_sets inner) ∙ append-nil l.deps

refs_are : (l : Label) (inner : Forest) → refs_among (clauses_of l inner) ≡ l.refs
refs_are l inner =
    refs_of_keys l.keys (map dep_clause l.deps ++ (map ref_clause l.refs ++ set_clauses inner)) ∙ refs_of_deps l.deps (map ref_clause l.refs ++ set_clauses inner) ∙ refs_of_refs l.refs (set_clauses inner)
    ∙ ap (λ xs. l.refs ++ xs) (refs_of_sets inner) ∙ append-nil l.refs

sets_are : (l : Label) (inner : Forest) → sets_among (clauses_of l inner) ≡ inner
sets_are l inner =
    sets_of_keys l.keys (map dep_clause l.deps ++ (map ref_clause l.refs ++ set_clauses inner)) ∙ sets_of_deps l.deps (map ref_clause l.refs ++ set_clauses inner) ∙ sets_of_refs l.refs (set_clauses inner) ∙ sets_of_sets inner

-- a set of these parts
abbrev tree_with : Label → List KeyDecl → List DepDecl → List RefDecl → Forest → Tree
tree_with l keys deps refs inner = record { label = record { name = l.name; columns = l.columns; keys = keys; deps = deps; refs = refs }; inner = inner }

tree_is : (l : Label) (inner : Forest) → tree_of_clauses l.name l.columns (clauses_of l inner) ≡ record { label = l; inner = inner }
tree_is l inner =
    let cs = clauses_of l inner in
    ap (λ ks. tree_with l ks (deps_among cs) (refs_among cs) (sets_among cs)) (keys_are l inner)
    ∙ ap (λ ds. tree_with l l.keys ds (refs_among cs) (sets_among cs)) (deps_are l inner)
    ∙ ap (λ rs. tree_with l l.keys l.deps rs (sets_among cs)) (refs_are l inner)
    ∙ ap (λ f. tree_with l l.keys l.deps l.refs f) (sets_are l inner)

-- ---- sets

head_flat : (margin : List ℕ) (l : Label) (tail : List ℕ)
    → head_lines margin l ++ tail ≡ margin ++ (codes "set " ++ (l.name ++ (codes " {\n" ++ (wider margin ++ (names_text l.columns ++ (codes ";\n" ++ tail))))))
head_flat margin l tail = simp append_assoc

wider_blank : (margin : List ℕ) → AllBlanked margin → AllBlanked (wider margin)
wider_blank margin blank = each_append is_blank margin (codes "  ") blank (each_passes is_blank (codes "  ") refl)

head_read : (margin : List ℕ) (l : Label) (place : ℕ) (tail : List ℕ) → AllBlanked margin → HasWordNames l → Reads (SpellsHead l.name l.columns) place (head_lines margin l ++ tail) tail
head_read margin l place tail blank named =
    subst (λ (text : List ℕ). Reads (SpellsHead l.name l.columns) place text tail) (sym (head_flat margin l tail))
    (blanks_then _ margin _ tail place blank
    (word_then _ (codes "set") _ tail _ (a_word (codes "set") refl) refl
    (blanks_then _ (codes " ") _ tail _ (each_passes is_blank (codes " ") refl)
    (word_then _ l.name _ tail _ named.name refl
    (blanks_then _ (codes " ") _ tail _ (each_passes is_blank (codes " ") refl)
    (mark_then _ (codes "{") _ tail _ refl
    (blanks_then _ (codes "\n") _ tail _ (each_passes is_blank (codes "\n") refl)
    (blanks_then _ (wider margin) _ tail _ (wider_blank margin blank)
    (both_then (SpellsCommaList SpellsName l.columns) _ _ _ tail _ (names_read l.columns _ (codes ";\n" ++ tail) named.columns refl) (λ u after h.
    mark_then _ (codes ";") _ tail _ refl
    (blanks_then _ (codes "\n") tail tail _ (each_passes is_blank (codes "\n") refl)
    (no_token _ _ tail (head_of _ _ _ _ refl refl refl h refl)))))))))))))

front_flat : (margin : List ℕ) (l : Label) (tail : List ℕ)
    → front_lines margin l ++ tail ≡ head_lines margin l ++ (flat_map (key_line (wider margin)) l.keys ++ (flat_map (dep_line (wider margin)) l.deps ++ (flat_map (ref_line (wider margin)) l.refs ++ tail)))
front_flat margin l tail =
    let keys = flat_map (key_line (wider margin)) l.keys in
    let deps = flat_map (dep_line (wider margin)) l.deps in
    let refs = flat_map (ref_line (wider margin)) l.refs in
    append_assoc (head_lines margin l) (keys ++ (deps ++ refs)) tail
    ∙ ap (λ (xs : List ℕ). head_lines margin l ++ xs) (append_assoc keys (deps ++ refs) tail ∙ ap (λ (xs : List ℕ). keys ++ xs) (append_assoc deps refs tail))

-- the inner sets of a set as its clauses
abbrev InnerRead : ℕ → ℕ → List ℕ → Forest → Type 0
InnerRead version levels margin f = (place : ℕ) (tail : List ℕ) → Reads (SpellsClauses version levels (set_clauses f)) place (printed margin f ++ tail) tail

set_closed : (version levels : ℕ) (l : Label) (inner : Forest) (u v : List Lexeme) (c : Lexeme) → SpellsHead l.name l.columns u → SpellsClauses version levels (clauses_of l inner) v → IsMarkToken (codes "}") c
    → SpellsSet version levels (record { label = l; inner = inner }) (u ++ (v ++ c ∷ []))
set_closed version levels l inner u v c head clauses closing = subst (λ (t : Tree). SpellsSet version levels t (u ++ (v ++ c ∷ []))) (tree_is l inner) (set_of c head clauses closing)

set_read : (version levels : ℕ) (margin : List ℕ) (l : Label) (inner : Forest) (place : ℕ) (more : List ℕ) → AllBlanked margin → HasWordNames l → IsOfVersion version l → InnerRead version levels (wider margin) inner
    → Reads (SpellsSet version levels (record { label = l; inner = inner })) place (front_lines margin l ++ (printed (wider margin) inner ++ (last_line margin ++ more))) more
set_read version levels margin l inner place more blank named first on =
    subst (λ (text : List ℕ). Reads (SpellsSet version levels (record { label = l; inner = inner })) place text more) (sym (front_flat margin l (printed (wider margin) inner ++ (last_line margin ++ more))))
    (both_then (SpellsHead l.name l.columns) _ _ _ more place (head_read margin l place _ blank named) (λ u after h.
    both_then (SpellsClauses version levels (clauses_of l inner)) _ _ (last_line margin ++ more) more after
    (keys_read version levels (wider margin) l.keys (map dep_clause l.deps ++ (map ref_clause l.refs ++ set_clauses inner)) _ (last_line margin ++ more) (wider_blank margin blank) named.keys
    (deps_read version levels (wider margin) l.deps (map ref_clause l.refs ++ set_clauses inner) _ (last_line margin ++ more) (wider_blank margin blank) named.deps first.deps
    (refs_read version levels (wider margin) l.refs (set_clauses inner) _ (last_line margin ++ more) (wider_blank margin blank) named.refs first.refs (λ p. on p (last_line margin ++ more)))) after) (λ v behind c.
    subst (λ (text : List ℕ). Reads (λ w. SpellsSet version levels (record { label = l; inner = inner }) (u ++ (v ++ w))) behind text more) (sym (append_assoc margin (codes "}\n") more))
    (blanks_then _ margin _ more _ blank
    (mark_then _ (codes "}") _ more _ refl
    (blanks_then _ (codes "\n") more more _ (each_passes is_blank (codes "\n") refl)
    (no_token _ _ more (set_closed version levels l inner u v _ h c refl))))))))

level_flat : (margin : List ℕ) (l : Label) (inner rest : Forest) (tail : List ℕ)
    → printed margin (set l inner rest) ++ tail ≡ front_lines margin l ++ (printed (wider margin) inner ++ (last_line margin ++ (printed margin rest ++ tail)))
level_flat margin l inner rest tail =
    append_assoc (front_lines margin l) _ tail ∙ ap (λ (xs : List ℕ). front_lines margin l ++ xs) (append_assoc (printed (wider margin) inner) _ tail
    ∙ ap (λ (xs : List ℕ). printed (wider margin) inner ++ xs) (append_assoc (last_line margin) (printed margin rest) tail))

inner_read : (version : ℕ) (f : Forest) (levels : ℕ) (margin : List ℕ) → AllBlanked margin → HaveWordNames f → FitsVersion version f → depth f ≤ levels → InnerRead version levels margin f
inner_read version none levels margin blank named first deep place tail = no_token _ place tail no_clause
inner_read version (set l i r) zero margin blank named first deep place tail = absurd (omega arith)
inner_read version (set l i r) (suc n) margin blank named first deep place tail =
    subst (λ (text : List ℕ). Reads (SpellsClauses version (suc n) (set_clauses (set l i r))) place text tail) (sym (level_flat margin l i r tail))
    (both_then (SpellsSet version n (record { label = l; inner = i })) _ _ (printed margin r ++ tail) tail place
    (set_read version n margin l i place (printed margin r ++ tail) blank named.0 first.0 (inner_read version i n (wider margin) (wider_blank margin blank) named.1 first.1 (omega arith))) (λ u after h.
    told_as (SpellsClauses version (suc n) (set_clauses r)) _ _ tail after (inner_read version r (suc n) margin blank named.2 first.2 (omega arith) after tail) (λ v c. clause_first (a_set h) c)))

-- ---- sides

abbrev trees_of : Forest → List Tree
trees_of none = []
trees_of (set l inner rest) = record { label = l; inner = inner } ∷ trees_of rest

forest_is : (f : Forest) → forest_of (trees_of f) ≡ f
forest_is none = refl
forest_is (set l i r) = ap (λ f. set l i f) (forest_is r)

sets_read : (version : ℕ) (f : Forest) (levels : ℕ) (margin : List ℕ) → AllBlanked margin → HaveWordNames f → FitsVersion version f → depth f ≤ suc levels → (place : ℕ) (tail : List ℕ) → Reads (Many (SpellsSet version levels) (trees_of f)) place (printed margin f ++ tail) tail
sets_read version none levels margin blank named first deep place tail = no_token _ place tail no_more
sets_read version (set l i r) n margin blank named first deep place tail =
    subst (λ (text : List ℕ). Reads (Many (SpellsSet version n) (trees_of (set l i r))) place text tail) (sym (level_flat margin l i r tail))
    (both_then (SpellsSet version n (record { label = l; inner = i })) _ _ (printed margin r ++ tail) tail place
    (set_read version n margin l i place (printed margin r ++ tail) blank named.0 first.0 (inner_read version i n (wider margin) (wider_blank margin blank) named.1 first.1 (omega arith))) (λ u after h.
    told_as (Many (SpellsSet version n) (trees_of r)) _ _ tail after (sets_read version r n margin blank named.2 first.2 (omega arith) after tail) (λ v c. one_more h c)))

side_closed : (version : ℕ) (name : List ℕ) (f : Forest) (k o c : Lexeme) (u : List Lexeme) → word_is name k ≡ true → IsMarkToken (codes "{") o → Many (SpellsSet version deepest) (trees_of f) u → IsMarkToken (codes "}") c
    → SpellsSide version name deepest f (k ∷ o ∷ (u ++ c ∷ []))
side_closed version name f k o c u word opening sets closing = subst (λ (g : Forest). SpellsSide version name deepest g (k ∷ o ∷ (u ++ c ∷ []))) (forest_is f) (side_of k o c word opening sets closing)

side_read : (version : ℕ) (name : List ℕ) (f : Forest) (place : ℕ) (more : List ℕ) → lexing.IsWord name → word_is name (lexeme 0 Word name) ≡ true → AreWritable version f
    → Reads (SpellsSide version name deepest f) place (name ++ (codes " {\n" ++ (printed [] f ++ (codes "}\n" ++ more)))) more
side_read version name f place more word is w =
    word_then _ name _ more _ word refl
    (blanks_then _ (codes " ") _ more _ (each_passes is_blank (codes " ") refl)
    (mark_then _ (codes "{") _ more _ refl
    (blanks_then _ (codes "\n") _ more _ (each_passes is_blank (codes "\n") refl)
    (both_then (Many (SpellsSet version deepest) (trees_of f)) _ _ _ more _ (sets_read version f deepest [] (each_passes is_blank [] refl) w.named w.sayable w.levels _ (codes "}\n" ++ more)) (λ u after h.
    mark_then _ (codes "}") _ more _ refl
    (blanks_then _ (codes "\n") more more _ (each_passes is_blank (codes "\n") refl)
    (no_token _ _ more (side_closed version name f _ _ _ u is refl h refl))))))))

-- the digit of a version is a number, and it tells the version
digit_text : {version : ℕ} → IsKnownVersion version → lexing.IsTokenText Number (digit_of version)
digit_text the_first = (refl, each_passes is_digit [] refl)
digit_text the_second = (refl, each_passes is_digit [] refl)
digit_text the_third = (refl, each_passes is_digit [] refl)

digit_tells : {version : ℕ} → IsKnownVersion version → (place : ℕ) → IsVersion version (lexeme place Number (digit_of version))
digit_tells the_first place = version_one refl
digit_tells the_second place = version_two refl
digit_tells the_third place = version_three refl

mapping_read : (version : ℕ) (from to : Forest) → IsKnownVersion version → AreWritable version from → AreWritable version to → Reads (SpellsMapping deepest (sides version from to)) 0 (sides_text version (printed [] from) (printed [] to)) []
mapping_read version from to known f t =
    word_then _ (codes "mapping") _ [] 0 (a_word (codes "mapping") refl) refl
    (blanks_then _ (codes " ") _ [] _ (each_passes is_blank (codes " ") refl)
    (token_then _ Number (digit_of version) _ [] _ (digit_text known) refl
    (mark_then _ (codes ";") _ [] _ refl
    (blanks_then _ (codes "\n") _ [] _ (each_passes is_blank (codes "\n") refl)
    (both_then (SpellsSide version (codes "source") deepest from) _ _ _ [] _ (side_read version (codes "source") from _ (codes "target {\n" ++ (printed [] to ++ codes "}\n")) (a_word (codes "source") refl) refl f) (λ u after h.
    both_then (SpellsSide version (codes "target") deepest to) _ _ [] [] _ (side_read version (codes "target") to _ [] (a_word (codes "target") refl) refl t) (λ v behind g.
    no_token _ _ [] (mapping_of _ _ _ refl (digit_tells known _) refl h g no_more))))))))

pub mapping_of_sides : (version : ℕ) (from to : Forest) → IsKnownVersion version → AreWritable version from → AreWritable version to → IsMappingText (sides_text version (printed [] from) (printed [] to)) (sides version from to)
mapping_of_sides version from to known f t = let r = reads_all (SpellsMapping deepest (sides version from to)) _ (mapping_read version from to known f t) in record { no_stop = r.no_stop; spelled = r.has }

pub read_again : (version : ℕ) (trees : Forest) (text : List ℕ) → text ≡ printed [] trees → IsKnownVersion version → AreWritable version trees → IsReadAgain version trees text
read_again version trees text is known w = record {
  source = λ others o. rw is (mapping_of_sides version trees others known w o);
  target = λ others o. rw is (mapping_of_sides version others trees known o w);
}

-- what is printed at once
pub printed_whole : (trees : Forest) (margin before after text : List ℕ) → text ≡ after → after ≡ before ++ printed margin trees → before ≡ [] → margin ≡ [] → text ≡ printed [] trees
printed_whole trees margin before after text t a b m = t ∙ a ∙ rw (b, m) refl

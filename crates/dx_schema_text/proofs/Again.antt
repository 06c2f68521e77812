-- What is spelled is read.
use Rattle.std.proofs.Common.{◌≡◌, ℕ, zero, suc, Bool, true, false, ◌||◌, List, [], ◌∷◌, ◌++◌, Ok, refl, ap, ◌∙◌, append_assoc}
use Rattle.std.specs.Prelude.{codes, nat_eq}
use Rattle.std.specs.Cmp.Lexicographic.{pointwise}
use Rattle.dx_tokens.specs.declared.scanner.Lexeme.{Lexeme}
use Rattle.dx_grammar.specs.Readers.{Reader, ◌>>=◌, give, token, next_is, either, many, with_front, Many}
use Rattle.dx_grammar.proofs.Loops.{Consumes, many_on, many_stops}
use Rattle.dx_grammar.proofs.Spelled.{Again, NotNext, BeginWith, many_again}
use Rattle.dx_schema.specs.declared.sets.KeyDecl.{KeyDecl}
use Rattle.dx_schema.specs.declared.sets.DepDecl.{DepDecl}
use Rattle.dx_schema.specs.declared.sets.RefDecl.{RefDecl}
use Rattle.dx_schema.specs.Forest.{Forest, Tree}
use Rattle.dx_schema_text.specs.declared.clauses.Clause.{Clause}
use Rattle.dx_schema_text.specs.declared.texts.PlaceText.{PlaceText}
use Rattle.dx_schema_text.specs.declared.texts.SourceText.{SourceText}
use Rattle.dx_schema_text.specs.declared.texts.LineText.{LineText}
use Rattle.dx_schema_text.specs.declared.texts.CellText.{CellText}
use Rattle.dx_schema_text.specs.declared.texts.AtomText.{AtomText}
use Rattle.dx_schema_text.specs.declared.texts.DerivedText.{DerivedText}
use Rattle.dx_schema_text.specs.declared.texts.RuleText.{RuleText}
use Rattle.dx_schema_text.specs.declared.texts.OnlyText.{OnlyText}
use Rattle.dx_schema_text.specs.declared.texts.MappingText.{MappingText}
use Rattle.dx_schema_text.specs.declared.mapping.ItemText.{ItemText}
use Rattle.dx_schema_text.specs.Grammar.{is_word, word_is, digit_is, mark_is, since_two, since_three}
use Rattle.dx_schema_text.specs.Reading.{comma_word, words_reader, key_reader, decided_reader, dep_reader, optional_reader, referred_reader, ref_reader, key_clause, dep_clause, ref_clause, set_clause, begins_determination, determination_reader, begins_clause, last_clause_reader, clause_reader_with, set_head_reader, set_reader_of, clause_reader, set_reader, tree_of_clauses, place_reader, comma_place, places_reader, string_reader, column_reader, call_reader, named_reader, source_reader, line_reader, name_reader, literal_reader, cell_reader, comma_cell, cells_reader, atom_reader, comma_atom, atoms_reader, derived_reader, comma_derived, where_reader, optional_where, rule_reader, only_reader, line_item, rule_item, only_item, begins_item, item_reader, side_reader, body_reader, numbered_reader, mapping_of_items, mapping_reader}
use Rattle.dx_schema_text.specs.Spelling.{IsMarkToken, IsKeyword, Comma, comma_then, SpellsCommaList, parted, SpellsName, name_of, SpellsKey, key_of, SpellsDep, dep_of, SpellsOptional, not_optional, is_optional, SpellsRef, ref_of, SpellsHead, head_of, SpellsSet, set_of, SpellsClauses, no_clause, clause_first, SpellsClause, a_key, a_dep, a_ref, a_set, SpellsPlace, place_of, SpellsSource, a_literal, a_column, a_call, SpellsLine, line_of, SpellsCell, a_name, a_text, SpellsAtom, atom_of, SpellsDerived, derived_of, SpellsWhere, no_where, where_of, SpellsRule, rule_of, SpellsOnly, only_of, SpellsItem, a_line, a_rule, a_condition, SpellsSide, side_of, IsVersion, version_one, version_two, version_three, SpellsMapping, mapping_of}
use Rattle.dx_schema_text.proofs.Apart.{apart_marks, apart_numbers, apart_words, apart_mark_word, apart_word_mark, apart_any_word_string, apart_string_any_word}
use Rattle.dx_schema_text.proofs.Follows.{comma_word_consumes, comma_place_consumes, comma_cell_consumes, comma_atom_consumes, comma_derived_consumes, apart_determination, clause_consumes, set_consumes, item_consumes}
use Rattle.std.proofs.lemmas.Bool.{or_left, or_right, or_parts}

abbrev comma : Lexeme → Bool
comma = mark_is (codes ",")

-- whatever is after it
abbrev Any : List Lexeme → Type 0
Any rest = Unit {0}

-- ---- parts

either_left : {A : Type 0} (p : Lexeme → Bool) (r q : Reader Lexeme A) (xs : List Lexeme) → next_is p xs ≡ true → either p r q xs ≡ r xs
either_left p r q xs e = rw e refl

either_right : {A : Type 0} (p : Lexeme → Bool) (r q : Reader Lexeme A) (xs : List Lexeme) → next_is p xs ≡ false → either p r q xs ≡ q xs
either_right p r q xs e = rw e refl

last_again : {A B : Type 0} (r : Reader Lexeme A) (h : A → B) (xs rest : List Lexeme) (a : A) → r xs ≡ Ok (a, rest) → (r >>= λ v. give (h v)) xs ≡ Ok (h a, rest)
last_again r h xs rest a e = rw e refl

comma_behind : {A : Type 0} (r : Reader Lexeme A) (R : A → List Lexeme → Type 0) → Again r R Any → {a : A} {u : List Lexeme} → Comma R a u → (rest : List Lexeme) → (token comma >>= λ c. r) (u ++ rest) ≡ Ok (a, rest)
comma_behind r R one (comma_then {a = a} {u = u} c e h) rest = rw e (one.again a u rest h tt)

comma_again : {A : Type 0} (r : Reader Lexeme A) (R : A → List Lexeme → Type 0) → Again r R Any → Again (token comma >>= λ c. r) (Comma R) Any
comma_again r R one = record { again = λ a u rest h ok. comma_behind r R one h rest }

comma_first : {A : Type 0} (R : A → List Lexeme → Type 0) {a : A} {u : List Lexeme} → Comma R a u → (x : Lexeme) × (v : List Lexeme) × (u ≡ x ∷ v) × (comma x ≡ true)
comma_first R (comma_then {u = u} c e h) = (c, u, refl, e)

comma_begins : {A : Type 0} (R : A → List Lexeme → Type 0) → BeginWith comma (Comma R)
comma_begins R = record { begin = λ a u h. comma_first R h }

parted_behind : {A : Type 0} (r q : Reader Lexeme A) (R : A → List Lexeme → Type 0) → Again r R Any → Again q (Comma R) Any → Consumes q → {items : List A} {w : List Lexeme} → SpellsCommaList R items w → (rest : List Lexeme) → NotNext comma rest
    → (r >>= λ first. many comma q >>= λ others. give (first ∷ others)) (w ++ rest) ≡ Ok (items, rest)
parted_behind r q R one more consumes (parted {a = a} {others = others} {u = u} {v = v} h m) rest stop =
    let all = (many_again comma q (Comma R) consumes (comma_begins R) more).again others v rest m stop in
    rw (append_assoc u v rest, one.again a u (v ++ rest) h tt, all) refl

-- one or more
parted_again : {A : Type 0} (r q : Reader Lexeme A) (R : A → List Lexeme → Type 0) → Again r R Any → Again q (Comma R) Any → Consumes q → Again (r >>= λ first. many comma q >>= λ others. give (first ∷ others)) (SpellsCommaList R) (NotNext comma)
parted_again r q R one more consumes = record { again = λ items w rest h stop. parted_behind r q R one more consumes h rest stop }

-- a mark that is no comma comes next
pub no_comma : (m : List ℕ) (x : Lexeme) → pointwise nat_eq m (codes ",") ≡ false → mark_is m x ≡ true → comma x ≡ false
no_comma m x ne e = apart_marks m (codes ",") ne x e

-- ---- sets

name_behind : {a : List ℕ} {u : List Lexeme} → SpellsName a u → (rest : List Lexeme) → (token is_word >>= λ w. give w.text) (u ++ rest) ≡ Ok (a, rest)
name_behind (name_of w e) rest = rw e refl

comma_word_again : Again comma_word (Comma SpellsName) Any
unfolding comma_word
comma_word_again = comma_again (token is_word >>= λ w. give w.text) SpellsName (record { again = λ a u rest h ok. name_behind h rest })

words_behind : {names : List (List ℕ)} {w : List Lexeme} → SpellsCommaList SpellsName names w → (rest : List Lexeme) → NotNext comma rest → words_reader (w ++ rest) ≡ Ok (names, rest)
unfolding words_reader
words_behind (parted {others = others} {v = v} (name_of x e) m) rest stop =
    let all = (many_again comma comma_word (Comma SpellsName) comma_word_consumes (comma_begins SpellsName) comma_word_again).again others v rest m stop in
    rw (e, all) refl

key_behind : {k : KeyDecl} {a : List Lexeme} → SpellsKey k a → (rest : List Lexeme) → key_reader (a ++ rest) ≡ Ok (k, rest)
unfolding key_reader
key_behind (key_of {u = u} k o c e kw ow names cw ew) rest =
    rw (append_assoc u (c ∷ e ∷ []) rest, kw, ow, words_behind names (c ∷ e ∷ rest) (no_comma (codes ")") c refl cw), cw, ew) refl

dep_behind : {d : DepDecl} {a : List Lexeme} → SpellsDep d a → (rest : List Lexeme) → dep_reader (a ++ rest) ≡ Ok (d, rest)
unfolding dep_reader decided_reader
dep_behind (dep_of {u = u} {v = v} k o c arrow p d e kw ow names cw aw pw decides dw ew) rest =
    let tail : (v ++ d ∷ e ∷ []) ++ rest ≡ v ++ d ∷ e ∷ rest = append_assoc v (d ∷ e ∷ []) rest in
    let all : (u ++ c ∷ arrow ∷ p ∷ (v ++ d ∷ e ∷ [])) ++ rest ≡ u ++ c ∷ arrow ∷ p ∷ (v ++ d ∷ e ∷ rest) = append_assoc u (c ∷ arrow ∷ p ∷ (v ++ d ∷ e ∷ [])) rest ∙ ap (λ ys. u ++ c ∷ arrow ∷ p ∷ ys) tail in
    rw (
      all,
      kw,
      ow,
      words_behind names (c ∷ arrow ∷ p ∷ (v ++ d ∷ e ∷ rest)) (no_comma (codes ")") c refl cw),
      cw,
      aw,
      pw,
      words_behind decides (d ∷ e ∷ rest) (no_comma (codes ")") d refl dw),
      dw,
      ew,
    ) refl

optional_behind : {optionals b : Bool} {w : List Lexeme} → SpellsOptional optionals b w → (e : Lexeme) (rest : List Lexeme) → IsMarkToken (codes ";") e → optional_reader optionals (w ++ e ∷ rest) ≡ Ok (b, e ∷ rest)
unfolding optional_reader
optional_behind {optionals = false} not_optional e rest ew = refl
optional_behind {optionals = true} not_optional e rest ew = rw (apart_mark_word (codes ";") (codes "optional") e ew) refl
optional_behind (is_optional k kw) e rest ew = rw kw refl

ref_behind : {optionals : Bool} {r : RefDecl} {a : List Lexeme} → SpellsRef optionals r a → (rest : List Lexeme) → ref_reader optionals (a ++ rest) ≡ Ok (r, rest)
unfolding ref_reader referred_reader
ref_behind (ref_of {u = u} {v = v} {w = w} k o c arrow s p d e kw ow names cw aw sw pw more dw is ew) rest =
    let last : (w ++ e ∷ []) ++ rest ≡ w ++ e ∷ rest = append_assoc w (e ∷ []) rest in
    let tail : (v ++ d ∷ (w ++ e ∷ [])) ++ rest ≡ v ++ d ∷ (w ++ e ∷ rest) = append_assoc v (d ∷ (w ++ e ∷ [])) rest ∙ ap (λ ys. v ++ d ∷ ys) last in
    let all : (u ++ c ∷ arrow ∷ s ∷ p ∷ (v ++ d ∷ (w ++ e ∷ []))) ++ rest ≡ u ++ c ∷ arrow ∷ s ∷ p ∷ (v ++ d ∷ (w ++ e ∷ rest)) = append_assoc u (c ∷ arrow ∷ s ∷ p ∷ (v ++ d ∷ (w ++ e ∷ []))) rest ∙ ap (λ ys. u ++ c ∷ arrow ∷ s ∷ p ∷ ys) tail in
    rw (
      all,
      kw,
      ow,
      words_behind names (c ∷ arrow ∷ s ∷ p ∷ (v ++ d ∷ (w ++ e ∷ rest))) (no_comma (codes ")") c refl cw),
      cw,
      aw,
      sw,
      pw,
      words_behind more (d ∷ (w ++ e ∷ rest)) (no_comma (codes ")") d refl dw),
      dw,
      optional_behind is e rest ew,
      ew,
    ) refl

pub head_behind : {name : List ℕ} {columns : List (List ℕ)} {a : List Lexeme} → SpellsHead name columns a → (rest : List Lexeme) → set_head_reader (a ++ rest) ≡ Ok ((name, columns), rest)
unfolding set_head_reader
head_behind (head_of {u = u} k n o e kw nw ow names ew) rest =
    rw (append_assoc u (e ∷ []) rest, kw, nw, ow, words_behind names (e ∷ rest) (no_comma (codes ";") e refl ew), ew) refl

key_first : {k : KeyDecl} {a : List Lexeme} → SpellsKey k a → (x : Lexeme) × (v : List Lexeme) × (a ≡ x ∷ v) × IsKeyword (codes "key") x
key_first (key_of {u = u} k o c e kw ow names cw ew) = (k, o ∷ (u ++ c ∷ e ∷ []), refl, kw)

dep_first : {d : DepDecl} {a : List Lexeme} → SpellsDep d a → (x : Lexeme) × (v : List Lexeme) × (a ≡ x ∷ v) × IsKeyword (codes "dep") x
dep_first (dep_of {u = u} {v = v} k o c arrow p d e kw ow names cw aw pw decides dw ew) = (k, o ∷ (u ++ c ∷ arrow ∷ p ∷ (v ++ d ∷ e ∷ [])), refl, kw)

ref_first : {optionals : Bool} {r : RefDecl} {a : List Lexeme} → SpellsRef optionals r a → (x : Lexeme) × (v : List Lexeme) × (a ≡ x ∷ v) × IsKeyword (codes "ref") x
ref_first (ref_of {u = u} {v = v} {w = w} k o c arrow s p d e kw ow names cw aw sw pw more dw is ew) = (k, o ∷ (u ++ c ∷ arrow ∷ s ∷ p ∷ (v ++ d ∷ (w ++ e ∷ []))), refl, kw)

head_first : {name : List ℕ} {columns : List (List ℕ)} {a : List Lexeme} → SpellsHead name columns a → (x : Lexeme) × (v : List Lexeme) × (a ≡ x ∷ v) × IsKeyword (codes "set") x
head_first (head_of {u = u} k n o e kw nw ow names ew) = (k, n ∷ o ∷ (u ++ e ∷ []), refl, kw)

set_first : {version levels : ℕ} {t : Tree} {a : List Lexeme} → SpellsSet version levels t a → (x : Lexeme) × (v : List Lexeme) × (a ≡ x ∷ v) × IsKeyword (codes "set") x
set_first (set_of {u = u} {v = v} c head cs cw) = let h = head_first head in (h.0, h.1 ++ (v ++ c ∷ []), ap (λ ys. ys ++ (v ++ c ∷ [])) h.2, h.3)

-- a test of the token that comes next
next_true : (p : Lexeme → Bool) (a v rest : List Lexeme) (x : Lexeme) → a ≡ x ∷ v → p x ≡ true → next_is p (a ++ rest) ≡ true
next_true p a v rest x e t = rw e t

next_false : (p : Lexeme → Bool) (a v rest : List Lexeme) (x : Lexeme) → a ≡ x ∷ v → p x ≡ false → next_is p (a ++ rest) ≡ false
next_false p a v rest x e t = rw e t

-- the words `key` and `dep` begin a determination, the second if dependencies may stand
key_begins : (deps : Bool) (x : Lexeme) → word_is (codes "key") x ≡ true → begins_determination deps x ≡ true
key_begins false x e = e
key_begins true x e = or_left (word_is (codes "key") x) (word_is (codes "dep") x) e

dep_begins : (deps : Bool) (x : Lexeme) → deps ≡ true → word_is (codes "dep") x ≡ true → begins_determination deps x ≡ true
dep_begins false x is e = absurd cc
dep_begins true x is e = or_right (word_is (codes "key") x) (word_is (codes "dep") x) e

-- what begins a determination, and the words `ref` and `set`, begin a clause
determination_first : (version levels : ℕ) (x : Lexeme) → begins_determination (since_three version) x ≡ true → begins_clause version levels x ≡ true
determination_first version zero x e = or_left (begins_determination (since_three version) x) (word_is (codes "ref") x) e
determination_first version (suc levels) x e = or_left (begins_determination (since_three version) x) (word_is (codes "ref") x || word_is (codes "set") x) e

ref_clause_first : (version levels : ℕ) (x : Lexeme) → word_is (codes "ref") x ≡ true → begins_clause version levels x ≡ true
ref_clause_first version zero x e = or_right (begins_determination (since_three version) x) (word_is (codes "ref") x) e
ref_clause_first version (suc levels) x e = or_right (begins_determination (since_three version) x) (word_is (codes "ref") x || word_is (codes "set") x) (or_left (word_is (codes "ref") x) (word_is (codes "set") x) e)

set_clause_first : (version levels : ℕ) (x : Lexeme) → word_is (codes "set") x ≡ true → begins_clause version (suc levels) x ≡ true
set_clause_first version levels x e = or_right (begins_determination (since_three version) x) (word_is (codes "ref") x || word_is (codes "set") x) (or_right (word_is (codes "ref") x) (word_is (codes "set") x) e)

first_clause : {version levels : ℕ} {c : Clause} {a : List Lexeme} → SpellsClause version levels c a → (x : Lexeme) × (v : List Lexeme) × (a ≡ x ∷ v) × (begins_clause version levels x ≡ true)
first_clause {version = version} {levels = levels} (a_key h) = let f = key_first h in (f.0, f.1, f.2, determination_first version levels f.0 (key_begins (since_three version) f.0 f.3))
first_clause {version = version} {levels = levels} (a_dep is h) = let f = dep_first h in (f.0, f.1, f.2, determination_first version levels f.0 (dep_begins (since_three version) f.0 is f.3))
first_clause {version = version} {levels = levels} (a_ref h) = let f = ref_first h in (f.0, f.1, f.2, ref_clause_first version levels f.0 f.3)
first_clause {version = version} {levels = suc levels} (a_set h) = let f = set_first h in (f.0, f.1, f.2, set_clause_first version levels f.0 f.3)

abbrev read_key : Reader Lexeme Clause
read_key = key_reader >>= λ k. give (key_clause k)

abbrev read_dep : Reader Lexeme Clause
read_dep = dep_reader >>= λ d. give (dep_clause d)

abbrev read_ref : ℕ → Reader Lexeme Clause
read_ref version = ref_reader (since_two version) >>= λ r. give (ref_clause r)

abbrev read_set : Reader Lexeme Tree → Reader Lexeme Clause
read_set inner = inner >>= λ t. give (set_clause t)

abbrev read_ref_or_set : ℕ → Reader Lexeme Tree → Reader Lexeme Clause
read_ref_or_set version inner = either (word_is (codes "ref")) (read_ref version) (read_set inner)

-- keys and dependencies

key_clause_behind : {k : KeyDecl} {a : List Lexeme} → SpellsKey k a → (rest : List Lexeme) → read_key (a ++ rest) ≡ Ok (key_clause k, rest)
key_clause_behind {k = k} {a = a} h rest = last_again key_reader key_clause (a ++ rest) rest k (key_behind h rest)

dep_clause_behind : {d : DepDecl} {a : List Lexeme} → SpellsDep d a → (rest : List Lexeme) → read_dep (a ++ rest) ≡ Ok (dep_clause d, rest)
dep_clause_behind {d = d} {a = a} h rest = last_again dep_reader dep_clause (a ++ rest) rest d (dep_behind h rest)

determined_key : (deps : Bool) {k : KeyDecl} {a : List Lexeme} → SpellsKey k a → (rest : List Lexeme) → determination_reader deps (a ++ rest) ≡ Ok (key_clause k, rest)
unfolding determination_reader
determined_key false h rest = key_clause_behind h rest
determined_key true {a = a} h rest = let f = key_first h in either_left (word_is (codes "key")) read_key read_dep (a ++ rest) (next_true (word_is (codes "key")) a f.1 rest f.0 f.2 f.3) ∙ key_clause_behind h rest

determined_dep : (deps : Bool) {d : DepDecl} {a : List Lexeme} → deps ≡ true → SpellsDep d a → (rest : List Lexeme) → determination_reader deps (a ++ rest) ≡ Ok (dep_clause d, rest)
unfolding determination_reader
determined_dep false is h rest = absurd cc
determined_dep true {a = a} is h rest =
    let f = dep_first h in
    either_right (word_is (codes "key")) read_key read_dep (a ++ rest) (next_false (word_is (codes "key")) a f.1 rest f.0 f.2 (apart_words (codes "dep") (codes "key") refl f.0 f.3)) ∙ dep_clause_behind h rest

next_key : (version : ℕ) {k : KeyDecl} {a : List Lexeme} → SpellsKey k a → (rest : List Lexeme) → next_is (begins_determination (since_three version)) (a ++ rest) ≡ true
next_key version {a = a} h rest = let f = key_first h in next_true (begins_determination (since_three version)) a f.1 rest f.0 f.2 (key_begins (since_three version) f.0 f.3)

next_dep : (version : ℕ) {d : DepDecl} {a : List Lexeme} → since_three version ≡ true → SpellsDep d a → (rest : List Lexeme) → next_is (begins_determination (since_three version)) (a ++ rest) ≡ true
next_dep version {a = a} is h rest = let f = dep_first h in next_true (begins_determination (since_three version)) a f.1 rest f.0 f.2 (dep_begins (since_three version) f.0 is f.3)

-- another word that begins neither
no_determination : (version : ℕ) (w : List ℕ) (a : List Lexeme) → pointwise nat_eq w (codes "key") ≡ false → pointwise nat_eq w (codes "dep") ≡ false → ((x : Lexeme) × (u : List Lexeme) × (a ≡ x ∷ u) × IsKeyword w x) → (rest : List Lexeme)
    → next_is (begins_determination (since_three version)) (a ++ rest) ≡ false
no_determination version w a no_key no_dep f rest =
    next_false (begins_determination (since_three version)) a f.1 rest f.0 f.2
    (apart_determination (since_three version) (word_is w) (apart_words w (codes "key") no_key) (apart_words w (codes "dep") no_dep) f.0 f.3)

-- clauses

ref_clause_behind : (version : ℕ) {r : RefDecl} {a : List Lexeme} → SpellsRef (since_two version) r a → (rest : List Lexeme) → read_ref version (a ++ rest) ≡ Ok (ref_clause r, rest)
ref_clause_behind version {r = r} {a = a} h rest = last_again (ref_reader (since_two version)) ref_clause (a ++ rest) rest r (ref_behind h rest)

last_clause_determined : (version : ℕ) (c : Clause) (xs rest : List Lexeme) → next_is (begins_determination (since_three version)) xs ≡ true → determination_reader (since_three version) xs ≡ Ok (c, rest) → last_clause_reader version xs ≡ Ok (c, rest)
unfolding last_clause_reader
last_clause_determined version c xs rest next read = either_left (begins_determination (since_three version)) (determination_reader (since_three version)) (read_ref version) xs next ∙ read

last_clause_ref : (version : ℕ) {r : RefDecl} {a : List Lexeme} → SpellsRef (since_two version) r a → (rest : List Lexeme) → last_clause_reader version (a ++ rest) ≡ Ok (ref_clause r, rest)
unfolding last_clause_reader
last_clause_ref version {a = a} h rest =
    either_right (begins_determination (since_three version)) (determination_reader (since_three version)) (read_ref version) (a ++ rest) (no_determination version (codes "ref") a refl refl (ref_first h) rest) ∙ ref_clause_behind version h rest

with_determined : (version : ℕ) (c : Clause) (inner : Reader Lexeme Tree) (xs rest : List Lexeme) → next_is (begins_determination (since_three version)) xs ≡ true → determination_reader (since_three version) xs ≡ Ok (c, rest) → clause_reader_with version inner xs ≡ Ok (c, rest)
unfolding clause_reader_with
with_determined version c inner xs rest next read = either_left (begins_determination (since_three version)) (determination_reader (since_three version)) (read_ref_or_set version inner) xs next ∙ read

with_ref : (version : ℕ) {r : RefDecl} {a : List Lexeme} → SpellsRef (since_two version) r a → (inner : Reader Lexeme Tree) (rest : List Lexeme) → clause_reader_with version inner (a ++ rest) ≡ Ok (ref_clause r, rest)
unfolding clause_reader_with
with_ref version {a = a} h inner rest =
    let f = ref_first h in
    either_right (begins_determination (since_three version)) (determination_reader (since_three version)) (read_ref_or_set version inner) (a ++ rest) (no_determination version (codes "ref") a refl refl f rest)
    ∙ either_left (word_is (codes "ref")) (read_ref version) (read_set inner) (a ++ rest) (next_true (word_is (codes "ref")) a f.1 rest f.0 f.2 f.3) ∙ ref_clause_behind version h rest

with_set : {version levels : ℕ} {t : Tree} {a : List Lexeme} → SpellsSet version levels t a → (inner : Reader Lexeme Tree) (rest : List Lexeme) → inner (a ++ rest) ≡ Ok (t, rest) → clause_reader_with version inner (a ++ rest) ≡ Ok (set_clause t, rest)
unfolding clause_reader_with
with_set {version = version} {t = t} {a = a} h inner rest read =
    let f = set_first h in
    either_right (begins_determination (since_three version)) (determination_reader (since_three version)) (read_ref_or_set version inner) (a ++ rest) (no_determination version (codes "set") a refl refl f rest)
    ∙ either_right (word_is (codes "ref")) (read_ref version) (read_set inner) (a ++ rest) (next_false (word_is (codes "ref")) a f.1 rest f.0 f.2 (apart_words (codes "set") (codes "ref") refl f.0 f.3))
    ∙ last_again inner set_clause (a ++ rest) rest t read

-- a closing brace begins no determination
brace_determination : (version : ℕ) (c : Lexeme) → IsMarkToken (codes "}") c → begins_determination (since_three version) c ≡ false
brace_determination version c cw = apart_determination (since_three version) (mark_is (codes "}")) (apart_mark_word (codes "}") (codes "key")) (apart_mark_word (codes "}") (codes "dep")) c cw

closing_stops : (version levels : ℕ) (c : Lexeme) (rest : List Lexeme) → IsMarkToken (codes "}") c → NotNext (begins_clause version levels) (c ∷ rest)
closing_stops version zero c rest cw = rw (brace_determination version c cw, apart_mark_word (codes "}") (codes "ref") c cw) refl
closing_stops version (suc levels) c rest cw = rw (brace_determination version c cw, apart_mark_word (codes "}") (codes "ref") c cw, apart_mark_word (codes "}") (codes "set") c cw) refl

set_made : (version levels : ℕ) (name : List ℕ) (columns : List (List ℕ)) (cs : List Clause) (c : Lexeme) (xs after rest : List Lexeme) → set_head_reader xs ≡ Ok ((name, columns), after) → many (begins_clause version levels) (clause_reader version levels) after ≡ Ok (cs, c ∷ rest) → IsMarkToken (codes "}") c
    → set_reader version levels xs ≡ Ok (tree_of_clauses name columns cs, rest)
unfolding set_reader_of
set_made version levels name columns cs c xs after rest e f cw = rw (e, f, cw) refl

mutual
  unfolding clause_reader

  pub set_behind : {version levels : ℕ} {t : Tree} {a : List Lexeme} → SpellsSet version levels t a → (rest : List Lexeme) → set_reader version levels (a ++ rest) ≡ Ok (t, rest)
  set_behind {version = version} {levels = levels} (set_of {name = name} {columns = columns} {cs = cs} {u = u} {v = v} c head clauses cw) rest =
      let all : (u ++ (v ++ c ∷ [])) ++ rest ≡ u ++ (v ++ c ∷ rest) = append_assoc u (v ++ c ∷ []) rest ∙ ap (λ ys. u ++ ys) (append_assoc v (c ∷ []) rest) in
      ap (set_reader version levels) all ∙ set_made version levels name columns cs c (u ++ (v ++ c ∷ rest)) (v ++ c ∷ rest) rest (head_behind head (v ++ c ∷ rest)) (clauses_behind clauses (c ∷ rest) (closing_stops version levels c rest cw)) cw

  clauses_behind : {version levels : ℕ} {cs : List Clause} {a : List Lexeme} → SpellsClauses version levels cs a → (rest : List Lexeme) → NotNext (begins_clause version levels) rest → many (begins_clause version levels) (clause_reader version levels) (a ++ rest) ≡ Ok (cs, rest)
  clauses_behind {version = version} {levels = levels} no_clause rest stop = many_stops (begins_clause version levels) (clause_reader version levels) (clause_consumes version levels) rest stop
  clauses_behind {version = version} {levels = levels} (clause_first {c = c} {cs = cs} {u = u} {v = v} h more) rest stop =
      let f = first_clause h in
      ap (many (begins_clause version levels) (clause_reader version levels)) (append_assoc u v rest)
      ∙ many_on (begins_clause version levels) (clause_reader version levels) (clause_consumes version levels) (u ++ (v ++ rest)) (v ++ rest) c (next_true (begins_clause version levels) u f.1 (v ++ rest) f.0 f.2 f.3) (clause_behind h (v ++ rest))
      ∙ ap (with_front (c ∷ [])) (clauses_behind more rest stop)

  pub clause_behind : {version levels : ℕ} {c : Clause} {a : List Lexeme} → SpellsClause version levels c a → (rest : List Lexeme) → clause_reader version levels (a ++ rest) ≡ Ok (c, rest)
  clause_behind {version = version} {levels = zero} {a = a} (a_key {k = k} h) rest = last_clause_determined version (key_clause k) (a ++ rest) rest (next_key version h rest) (determined_key (since_three version) h rest)
  clause_behind {version = version} {levels = suc levels} {a = a} (a_key {k = k} h) rest = with_determined version (key_clause k) (set_reader version levels) (a ++ rest) rest (next_key version h rest) (determined_key (since_three version) h rest)
  clause_behind {version = version} {levels = zero} {a = a} (a_dep {d = d} is h) rest = last_clause_determined version (dep_clause d) (a ++ rest) rest (next_dep version is h rest) (determined_dep (since_three version) is h rest)
  clause_behind {version = version} {levels = suc levels} {a = a} (a_dep {d = d} is h) rest = with_determined version (dep_clause d) (set_reader version levels) (a ++ rest) rest (next_dep version is h rest) (determined_dep (since_three version) is h rest)
  clause_behind {version = version} {levels = zero} (a_ref h) rest = last_clause_ref version h rest
  clause_behind {version = version} {levels = suc levels} (a_ref h) rest = with_ref version h (set_reader version levels) rest
  clause_behind {version = version} {levels = suc levels} (a_set h) rest = with_set h (set_reader version levels) rest (set_behind h rest)

-- ---- lines

place_behind : {p : PlaceText} {a : List Lexeme} → SpellsPlace p a → (rest : List Lexeme) → place_reader (a ++ rest) ≡ Ok (p, rest)
unfolding place_reader
place_behind (place_of s dot c sw dw cw) rest = rw (sw, dw, cw) refl

place_again : Again place_reader SpellsPlace Any
place_again = record { again = λ p a rest h ok. place_behind h rest }

comma_place_again : Again comma_place (Comma SpellsPlace) Any
unfolding comma_place
comma_place_again = comma_again place_reader SpellsPlace place_again

places_again : Again places_reader (SpellsCommaList SpellsPlace) (NotNext comma)
unfolding places_reader
places_again = parted_again place_reader comma_place SpellsPlace place_again comma_place_again comma_place_consumes

source_behind : {s : SourceText} {a : List Lexeme} → SpellsSource s a → (rest : List Lexeme) → source_reader (a ++ rest) ≡ Ok (s, rest)
unfolding source_reader string_reader named_reader column_reader call_reader
source_behind (a_literal s sw) rest = rw sw refl
source_behind (a_column (place_of s dot c sw dw cw)) rest = rw (apart_any_word_string s sw, sw, dw, cw) refl
source_behind (a_call {args = args} {u = u} n o c nw ow h cw) rest =
    rw (append_assoc u (c ∷ []) rest, apart_any_word_string n nw, nw, apart_marks (codes "(") (codes ".") refl o ow, ow, places_again.again args u (c ∷ rest) h (no_comma (codes ")") c refl cw), cw) refl

line_behind : {l : LineText} {a : List Lexeme} → SpellsLine l a → (rest : List Lexeme) → line_reader (a ++ rest) ≡ Ok (l, rest)
unfolding line_reader
line_behind (line_of {u = u} {v = v} k arrow e kw from aw to ew) rest =
    let all : (u ++ arrow ∷ (v ++ e ∷ [])) ++ rest ≡ u ++ arrow ∷ (v ++ e ∷ rest) = append_assoc u (arrow ∷ (v ++ e ∷ [])) rest ∙ ap (λ ys. u ++ arrow ∷ ys) (append_assoc v (e ∷ []) rest) in
    rw (all, kw, source_behind from (arrow ∷ (v ++ e ∷ rest)), aw, place_behind to (e ∷ rest), ew) refl

-- ---- rules

cell_behind : {strings : Bool} {c : CellText} {a : List Lexeme} → SpellsCell strings c a → (rest : List Lexeme) → cell_reader strings (a ++ rest) ≡ Ok (c, rest)
unfolding cell_reader name_reader literal_reader
cell_behind {strings = false} (a_name w e) rest = rw e refl
cell_behind {strings = true} (a_name w e) rest = rw e refl
cell_behind {strings = true} (a_text s e) rest = rw (apart_string_any_word s e, e) refl

cell_again : (strings : Bool) → Again (cell_reader strings) (SpellsCell strings) Any
cell_again strings = record { again = λ c a rest h ok. cell_behind h rest }

comma_cell_again : (strings : Bool) → Again (comma_cell strings) (Comma (SpellsCell strings)) Any
unfolding comma_cell
comma_cell_again strings = comma_again (cell_reader strings) (SpellsCell strings) (cell_again strings)

pub cells_again : (strings : Bool) → Again (cells_reader strings) (SpellsCommaList (SpellsCell strings)) (NotNext comma)
unfolding cells_reader
cells_again strings = parted_again (cell_reader strings) (comma_cell strings) (SpellsCell strings) (cell_again strings) (comma_cell_again strings) (comma_cell_consumes strings)

atom_behind : {strings : Bool} {t : AtomText} {a : List Lexeme} → SpellsAtom strings t a → (rest : List Lexeme) → atom_reader strings (a ++ rest) ≡ Ok (t, rest)
unfolding atom_reader
atom_behind {strings = strings} (atom_of {cs = cs} {u = u} s o c sw ow h cw) rest =
    rw (append_assoc u (c ∷ []) rest, sw, ow, (cells_again strings).again cs u (c ∷ rest) h (no_comma (codes ")") c refl cw), cw) refl

atom_again : (strings : Bool) → Again (atom_reader strings) (SpellsAtom strings) Any
atom_again strings = record { again = λ t a rest h ok. atom_behind h rest }

comma_atom_again : (strings : Bool) → Again (comma_atom strings) (Comma (SpellsAtom strings)) Any
unfolding comma_atom
comma_atom_again strings = comma_again (atom_reader strings) (SpellsAtom strings) (atom_again strings)

pub atoms_again : (strings : Bool) → Again (atoms_reader strings) (SpellsCommaList (SpellsAtom strings)) (NotNext comma)
unfolding atoms_reader
atoms_again strings = parted_again (atom_reader strings) (comma_atom strings) (SpellsAtom strings) (atom_again strings) (comma_atom_again strings) (comma_atom_consumes strings)

derived_behind : {d : DerivedText} {a : List Lexeme} → SpellsDerived d a → (rest : List Lexeme) → derived_reader (a ++ rest) ≡ Ok (d, rest)
unfolding derived_reader
derived_behind (derived_of {args = args} {u = u} n equal call o c nw qw kw ow h cw) rest =
    rw (append_assoc u (c ∷ []) rest, nw, qw, kw, ow, (cells_again false).again args u (c ∷ rest) h (no_comma (codes ")") c refl cw), cw) refl

derived_again : Again derived_reader SpellsDerived Any
derived_again = record { again = λ d a rest h ok. derived_behind h rest }

comma_derived_again : Again comma_derived (Comma SpellsDerived) Any
unfolding comma_derived
comma_derived_again = comma_again derived_reader SpellsDerived derived_again

-- derived variables, up to an arrow
where_behind : {ds : List DerivedText} {a : List Lexeme} → SpellsWhere ds a → (arrow : Lexeme) (rest : List Lexeme) → IsMarkToken (codes "->") arrow → optional_where (a ++ arrow ∷ rest) ≡ Ok (ds, arrow ∷ rest)
unfolding optional_where where_reader
where_behind no_where arrow rest aw = rw (apart_mark_word (codes "->") (codes "where") arrow aw) refl
where_behind (where_of {ds = ds} {u = u} k kw h) arrow rest aw =
    rw kw ((parted_again derived_reader comma_derived SpellsDerived derived_again comma_derived_again comma_derived_consumes).again ds u (arrow ∷ rest) h (no_comma (codes "->") arrow refl aw))

-- nothing that may follow the premise begins with a comma
where_no_comma : {ds : List DerivedText} {a : List Lexeme} → SpellsWhere ds a → (arrow : Lexeme) (rest : List Lexeme) → IsMarkToken (codes "->") arrow → NotNext comma (a ++ arrow ∷ rest)
where_no_comma no_where arrow rest aw = no_comma (codes "->") arrow refl aw
where_no_comma (where_of k kw h) arrow rest aw = apart_word_mark (codes "where") (codes ",") k kw

rule_behind : {r : RuleText} {a : List Lexeme} → SpellsRule r a → (rest : List Lexeme) → rule_reader (a ++ rest) ≡ Ok (r, rest)
unfolding rule_reader
rule_behind (rule_of {premise = premise} {conclusion = conclusion} {u = u} {v = v} {w = w} k arrow e kw p d aw q ew) rest =
    let tail : (v ++ arrow ∷ (w ++ e ∷ [])) ++ rest ≡ v ++ arrow ∷ (w ++ e ∷ rest) = append_assoc v (arrow ∷ (w ++ e ∷ [])) rest ∙ ap (λ ys. v ++ arrow ∷ ys) (append_assoc w (e ∷ []) rest) in
    let all : (u ++ (v ++ arrow ∷ (w ++ e ∷ []))) ++ rest ≡ u ++ (v ++ arrow ∷ (w ++ e ∷ rest)) = append_assoc u (v ++ arrow ∷ (w ++ e ∷ [])) rest ∙ ap (λ ys. u ++ ys) tail in
    rw (
      all,
      kw,
      (atoms_again false).again premise u (v ++ arrow ∷ (w ++ e ∷ rest)) p (where_no_comma d arrow (w ++ e ∷ rest) aw),
      where_behind d arrow (w ++ e ∷ rest) aw,
      aw,
      (atoms_again true).again conclusion w (e ∷ rest) q (no_comma (codes ";") e refl ew),
      ew,
    ) refl

-- ---- conditions

only_behind : {o : OnlyText} {a : List Lexeme} → SpellsOnly o a → (rest : List Lexeme) → only_reader (a ++ rest) ≡ Ok (o, rest)
unfolding only_reader
only_behind (only_of {u = u} k t e kw column tw ew) rest =
    rw (append_assoc u (t ∷ e ∷ []) rest, kw, place_behind column (t ∷ e ∷ rest), tw, ew) refl

-- ---- mappings

line_first : {l : LineText} {a : List Lexeme} → SpellsLine l a → (x : Lexeme) × (v : List Lexeme) × (a ≡ x ∷ v) × IsKeyword (codes "line") x
line_first (line_of {u = u} {v = v} k arrow e kw from aw to ew) = (k, u ++ arrow ∷ (v ++ e ∷ []), refl, kw)

rule_first : {r : RuleText} {a : List Lexeme} → SpellsRule r a → (x : Lexeme) × (v : List Lexeme) × (a ≡ x ∷ v) × IsKeyword (codes "rule") x
rule_first (rule_of {u = u} {v = v} {w = w} k arrow e kw p d aw q ew) = (k, u ++ (v ++ arrow ∷ (w ++ e ∷ [])), refl, kw)

only_first : {o : OnlyText} {a : List Lexeme} → SpellsOnly o a → (x : Lexeme) × (v : List Lexeme) × (a ≡ x ∷ v) × IsKeyword (codes "only") x
only_first (only_of {u = u} k t e kw column tw ew) = (k, u ++ t ∷ e ∷ [], refl, kw)

abbrev rule_or_only : Lexeme → Bool
rule_or_only x = word_is (codes "rule") x || word_is (codes "only") x

item_first : {conditions : Bool} {i : ItemText} {a : List Lexeme} → SpellsItem conditions i a → (x : Lexeme) × (v : List Lexeme) × (a ≡ x ∷ v) × (begins_item conditions x ≡ true)
item_first {conditions = false} (a_line h) = let f = line_first h in (f.0, f.1, f.2, or_left (word_is (codes "line") f.0) (word_is (codes "rule") f.0) f.3)
item_first {conditions = true} (a_line h) = let f = line_first h in (f.0, f.1, f.2, or_left (word_is (codes "line") f.0) (rule_or_only f.0) f.3)
item_first {conditions = false} (a_rule h) = let f = rule_first h in (f.0, f.1, f.2, or_right (word_is (codes "line") f.0) (word_is (codes "rule") f.0) f.3)
item_first {conditions = true} (a_rule h) = let f = rule_first h in (f.0, f.1, f.2, or_right (word_is (codes "line") f.0) (rule_or_only f.0) (or_left (word_is (codes "rule") f.0) (word_is (codes "only") f.0) f.3))
item_first (a_condition h) = let f = only_first h in (f.0, f.1, f.2, or_right (word_is (codes "line") f.0) (rule_or_only f.0) (or_right (word_is (codes "rule") f.0) (word_is (codes "only") f.0) f.3))

abbrev read_line : Reader Lexeme ItemText
read_line = line_reader >>= λ l. give (line_item l)

abbrev read_rule : Reader Lexeme ItemText
read_rule = rule_reader >>= λ r. give (rule_item r)

abbrev read_only : Reader Lexeme ItemText
read_only = only_reader >>= λ o. give (only_item o)

abbrev read_rule_or_only : Reader Lexeme ItemText
read_rule_or_only = either (word_is (codes "rule")) read_rule read_only

line_read : {l : LineText} {a : List Lexeme} (other : Reader Lexeme ItemText) → SpellsLine l a → (rest : List Lexeme) → either (word_is (codes "line")) read_line other (a ++ rest) ≡ Ok (line_item l, rest)
line_read {l = l} {a = a} other h rest =
    let f = line_first h in
    either_left (word_is (codes "line")) read_line other (a ++ rest) (next_true (word_is (codes "line")) a f.1 rest f.0 f.2 f.3) ∙ last_again line_reader line_item (a ++ rest) rest l (line_behind h rest)

rule_read : {r : RuleText} {a : List Lexeme} → SpellsRule r a → (rest : List Lexeme) → read_rule (a ++ rest) ≡ Ok (rule_item r, rest)
rule_read {r = r} {a = a} h rest = last_again rule_reader rule_item (a ++ rest) rest r (rule_behind h rest)

-- the word that an item begins with is another
next_other : (v w : List ℕ) (a : List Lexeme) → pointwise nat_eq v w ≡ false → ((x : Lexeme) × (u : List Lexeme) × (a ≡ x ∷ u) × IsKeyword v x) → (rest : List Lexeme) → next_is (word_is w) (a ++ rest) ≡ false
next_other v w a ne f rest = next_false (word_is w) a f.1 rest f.0 f.2 (apart_words v w ne f.0 f.3)

item_behind : {conditions : Bool} {i : ItemText} {a : List Lexeme} → SpellsItem conditions i a → (rest : List Lexeme) → item_reader conditions (a ++ rest) ≡ Ok (i, rest)
unfolding item_reader
item_behind {conditions = false} (a_line h) rest = line_read read_rule h rest
item_behind {conditions = true} (a_line h) rest = line_read read_rule_or_only h rest
item_behind {conditions = false} {a = a} (a_rule h) rest = either_right (word_is (codes "line")) read_line read_rule (a ++ rest) (next_other (codes "rule") (codes "line") a refl (rule_first h) rest) ∙ rule_read h rest
item_behind {conditions = true} {a = a} (a_rule h) rest =
    let f = rule_first h in
    either_right (word_is (codes "line")) read_line read_rule_or_only (a ++ rest) (next_other (codes "rule") (codes "line") a refl f rest)
    ∙ either_left (word_is (codes "rule")) read_rule read_only (a ++ rest) (next_true (word_is (codes "rule")) a f.1 rest f.0 f.2 f.3) ∙ rule_read h rest
item_behind {a = a} (a_condition {o = o} h) rest =
    let f = only_first h in
    either_right (word_is (codes "line")) read_line read_rule_or_only (a ++ rest) (next_other (codes "only") (codes "line") a refl f rest)
    ∙ either_right (word_is (codes "rule")) read_rule read_only (a ++ rest) (next_other (codes "only") (codes "rule") a refl f rest) ∙ last_again only_reader only_item (a ++ rest) rest o (only_behind h rest)

items_again : (conditions : Bool) → Again (many (begins_item conditions) (item_reader conditions)) (Many (SpellsItem conditions)) (NotNext (begins_item conditions))
items_again conditions = many_again (begins_item conditions) (item_reader conditions) (SpellsItem conditions) (item_consumes conditions) (record { begin = λ i a h. item_first h }) (record { again = λ i a rest h ok. item_behind h rest })

set_begin : (version levels : ℕ) (t : Tree) (a : List Lexeme) → SpellsSet version levels t a → (x : Lexeme) × (v : List Lexeme) × (a ≡ x ∷ v) × (word_is (codes "set") x ≡ true)
set_begin version levels t a h = set_first h

sets_again : (version levels : ℕ) → Again (many (word_is (codes "set")) (set_reader version levels)) (Many (SpellsSet version levels)) (NotNext (word_is (codes "set")))
sets_again version levels = many_again (word_is (codes "set")) (set_reader version levels) (SpellsSet version levels) (set_consumes version levels) (record { begin = set_begin version levels }) (record { again = λ t a rest h ok. set_behind h rest })

pub side_behind : {version : ℕ} {name : List ℕ} {levels : ℕ} {f : Forest} {a : List Lexeme} → SpellsSide version name levels f a → (rest : List Lexeme) → side_reader version name levels (a ++ rest) ≡ Ok (f, rest)
unfolding side_reader
side_behind {version = version} {levels = levels} (side_of {trees = trees} {u = u} k o c kw ow h cw) rest =
    rw (append_assoc u (c ∷ []) rest, kw, ow, (sets_again version levels).again trees u (c ∷ rest) h (apart_mark_word (codes "}") (codes "set") c cw), cw) refl

-- no item comes next, not even one of a later version
abbrev pub NoItemNext : List Lexeme → Type 0
NoItemNext = NotNext (begins_item true)

fewer_begin : (conditions : Bool) (rest : List Lexeme) → NoItemNext rest → NotNext (begins_item conditions) rest
fewer_begin true rest h = h
fewer_begin false [] h = refl
fewer_begin false (x ∷ rest) h =
    let two = or_parts (word_is (codes "line") x) (rule_or_only x) h in
    rw (two.0, (or_parts (word_is (codes "rule") x) (word_is (codes "only") x) two.1).0) refl

body_behind : {version levels : ℕ} {from to : Forest} {items : List ItemText} {u v w : List Lexeme} (e : Lexeme) → IsMarkToken (codes ";") e → SpellsSide version (codes "source") levels from u → SpellsSide version (codes "target") levels to v
    → Many (SpellsItem (since_two version)) items w → (rest : List Lexeme) → NoItemNext rest → body_reader version levels (e ∷ (u ++ (v ++ (w ++ rest)))) ≡ Ok (mapping_of_items version from to items, rest)
unfolding body_reader
body_behind {version = version} {items = items} {v = v} {w = w} e ew from to h rest stop =
    rw (ew, side_behind from (v ++ (w ++ rest)), side_behind to (w ++ rest), (items_again (since_two version)).again items w rest h (fewer_begin (since_two version) rest stop)) refl

-- the number of a version tells which body is read
version_read : {version : ℕ} {n : Lexeme} → IsVersion version n → (levels : ℕ) (xs : List Lexeme)
    → either (digit_is (codes "1")) (numbered_reader (codes "1") 1 levels) (either (digit_is (codes "2")) (numbered_reader (codes "2") 2 levels) (numbered_reader (codes "3") 3 levels)) (n ∷ xs) ≡ body_reader version levels xs
version_read (version_one nw) levels xs = rw nw refl
version_read (version_two {n = n} nw) levels xs = rw (apart_numbers (codes "2") (codes "1") refl n nw, nw) refl
version_read (version_three {n = n} nw) levels xs = rw (apart_numbers (codes "3") (codes "1") refl n nw, apart_numbers (codes "3") (codes "2") refl n nw, nw) refl

mapping_behind : {levels : ℕ} {m : MappingText} {a : List Lexeme} → SpellsMapping levels m a → (rest : List Lexeme) → NoItemNext rest → mapping_reader levels (a ++ rest) ≡ Ok (m, rest)
unfolding mapping_reader
mapping_behind {levels = levels} (mapping_of {u = u} {v = v} {w = w} k n e kw nw ew from to h) rest stop =
    let all : (u ++ (v ++ w)) ++ rest ≡ u ++ (v ++ (w ++ rest)) = append_assoc u (v ++ w) rest ∙ ap (λ ys. u ++ ys) (append_assoc v w rest) in
    rw (all, kw) (version_read nw levels (e ∷ (u ++ (v ++ (w ++ rest)))) ∙ body_behind e ew from to h rest stop)

pub mapping_again : (levels : ℕ) → Again (mapping_reader levels) (SpellsMapping levels) NoItemNext
mapping_again levels = record { again = λ m a rest h stop. mapping_behind h rest stop }

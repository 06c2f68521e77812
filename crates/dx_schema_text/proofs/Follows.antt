-- Each reader reads its form.
use Rattle.std.proofs.Common.{◌≡◌, ℕ, zero, suc, Bool, true, false, ◌||◌, List, ◌∷◌, refl, inl, inr}
use Rattle.std.specs.Prelude.{codes}
use Rattle.std.proofs.lemmas.Bool.{or_parts, or_cases, or_left, or_right}
use Rattle.dx_tokens.specs.declared.scanner.Lexeme.{Lexeme}
use Rattle.dx_grammar.specs.Forms.{Form, nothing, one, ◌▸◌, ◌∣◌, repeated, optional}
use Rattle.dx_grammar.specs.Readers.{Reader, give, token, either, many}
use Rattle.dx_grammar.proofs.Verdicts.{IsReader, Anything, Stops, Begins, KeptApart}
use Rattle.dx_grammar.proofs.Combined.{one_reads, nothing_reads, then_reads, then_any, last_reads, weaker, either_reads, many_reads, begins_one, begins_both, begins_choice, begins_wider, stops_at, stops_past, consumes, apart_or, or_apart}
use Rattle.dx_grammar.proofs.Loops.{Consumes}
use Rattle.dx_schema.specs.Forest.{Tree}
use Rattle.dx_schema_text.specs.declared.clauses.Clause.{Clause}
use Rattle.dx_schema_text.specs.Grammar.{is_word, is_string, word_is, digit_is, mark_is, since_two, since_three, word, string, keyword, mark, words, key, dep, determination, optional_word, ref, set_head, set_of, last_clause, clause_with, clause, set, place, places, behind_word, line_source, line, rule_cell, cells, atom, atoms, derived, where_part, rule, only, item, side, body, version_body, mapping}
use Rattle.dx_schema_text.specs.Reading.{comma_word, words_reader, key_reader, decided_reader, dep_reader, determination_reader, begins_determination, optional_reader, referred_reader, ref_reader, key_clause, dep_clause, ref_clause, set_clause, begins_clause, last_clause_reader, clause_reader_with, set_head_reader, set_reader_of, clause_reader, set_reader, place_reader, comma_place, places_reader, string_reader, column_reader, call_reader, named_reader, source_reader, line_reader, name_reader, literal_reader, cell_reader, comma_cell, cells_reader, atom_reader, comma_atom, atoms_reader, derived_reader, comma_derived, where_reader, optional_where, rule_reader, only_reader, line_item, rule_item, only_item, begins_item, item_reader, side_reader, body_reader, numbered_reader, mapping_reader}
use Rattle.dx_schema_text.proofs.Apart.{apart_marks, apart_numbers, apart_words, apart_mark_word, apart_word_mark, apart_any_word_string, apart_string_any_word}

abbrev comma : Lexeme → Bool
comma = mark_is (codes ",")

-- a token, whatever follows
pub a : (p : Lexeme → Bool) → IsReader Anything (one p) (token p)
a p = one_reads Anything p

-- a mark that is no comma ends what commas part
pub comma_stops : (m : List ℕ) (b : Form Lexeme) (more : List (Form Lexeme)) → KeptApart comma (mark_is m) → Begins (mark_is m) b → Stops comma (b ∷ more)
comma_stops m b more apart begins = stops_at comma (mark_is m) b more begins apart

pub begins_with : (p : Lexeme → Bool) (b : Form Lexeme) → Begins p (one p ▸ b)
begins_with p b = begins_both p (one p) b (begins_one p)

-- ---- names

pub comma_word_reads : IsReader Anything (mark (codes ",") ▸ word) comma_word
unfolding comma_word
comma_word_reads = then_any Anything (mark (codes ",")) word (token comma) _ (a comma) (λ c. last_reads Anything word (token is_word) (λ w. w.text) (a is_word))

pub comma_word_consumes : Consumes comma_word
comma_word_consumes = consumes comma (mark (codes ",") ▸ word) comma_word comma_word_reads (begins_with comma word)

pub words_reads : IsReader (Stops comma) words words_reader
unfolding words words_reader
words_reads =
    then_any (Stops comma) word (repeated (mark (codes ",") ▸ word)) (token is_word) _ (a is_word) (λ first.
    last_reads (Stops comma) (repeated (mark (codes ",") ▸ word)) (many comma comma_word) (λ others. first.text ∷ others)
    (many_reads comma (mark (codes ",") ▸ word) comma_word comma_word_reads (begins_with comma word)))

-- ---- sets

pub key_begins : Begins (word_is (codes "key")) key
unfolding key
key_begins = begins_with (word_is (codes "key")) _

dep_begins : Begins (word_is (codes "dep")) dep
unfolding dep
dep_begins = begins_with (word_is (codes "dep")) _

abbrev says_optional : Lexeme → Bool
says_optional = word_is (codes "optional")

optional_reads : (optionals : Bool) → IsReader (Stops says_optional) (optional_word optionals) (optional_reader optionals)
unfolding optional_word optional_reader
optional_reads false = nothing_reads (Stops says_optional) false
optional_reads true =
    either_reads (Stops says_optional) says_optional (keyword (codes "optional")) nothing _ (give false) (last_reads (Stops says_optional) (keyword (codes "optional")) (token says_optional) (λ k. true) (one_reads (Stops says_optional) says_optional))
    (nothing_reads (Stops says_optional) false) (begins_one says_optional)
    (λ more ok. stops_past says_optional nothing more (λ x e. refl) ok)

pub ref_begins : (optionals : Bool) → Begins (word_is (codes "ref")) (ref optionals)
unfolding ref
ref_begins optionals = begins_with (word_is (codes "ref")) _

pub set_of_begins : (inner : Form Lexeme) → Begins (word_is (codes "set")) (set_of inner)
unfolding set_of set_head
set_of_begins inner = begins_both (word_is (codes "set")) set_head _ (begins_with (word_is (codes "set")) _)

pub key_reads : IsReader Anything key key_reader
unfolding key key_reader
key_reads =
    then_any Anything _ _ _ _ (a (word_is (codes "key"))) (λ keyword'.
    then_any Anything _ _ _ _ (a (mark_is (codes "("))) (λ opening.
    then_reads Anything (Stops comma) words (mark (codes ")") ▸ mark (codes ";")) words_reader _ words_reads (λ columns.
    then_any Anything _ _ _ _ (a (mark_is (codes ")"))) (λ closing.
    last_reads Anything (mark (codes ";")) (token (mark_is (codes ";"))) _ (a (mark_is (codes ";")))))
    (λ more ok. comma_stops (codes ")") _ more (apart_marks (codes ",") (codes ")") refl) (begins_with (mark_is (codes ")")) _))))

pub dep_reads : IsReader Anything dep dep_reader
unfolding dep dep_reader decided_reader
dep_reads =
    then_any Anything _ _ _ _ (a (word_is (codes "dep"))) (λ keyword'.
    then_any Anything _ _ _ _ (a (mark_is (codes "("))) (λ opening.
    then_reads Anything (Stops comma) words _ words_reader _ words_reads (λ columns.
    then_any Anything _ _ _ _ (a (mark_is (codes ")"))) (λ closing.
    then_any Anything _ _ _ _ (a (mark_is (codes "->"))) (λ arrow.
    then_any Anything _ _ _ _ (a (mark_is (codes "("))) (λ second.
    then_reads Anything (Stops comma) words (mark (codes ")") ▸ mark (codes ";")) words_reader _ words_reads (λ decides.
    then_any Anything _ _ _ _ (a (mark_is (codes ")"))) (λ closed.
    last_reads Anything (mark (codes ";")) (token (mark_is (codes ";"))) _ (a (mark_is (codes ";")))))
    (λ more ok. comma_stops (codes ")") _ more (apart_marks (codes ",") (codes ")") refl) (begins_with (mark_is (codes ")")) _))))))
    (λ more ok. comma_stops (codes ")") _ more (apart_marks (codes ",") (codes ")") refl) (begins_with (mark_is (codes ")")) _))))

-- ---- keys and dependencies

determination_begins : (deps : Bool) → Begins (begins_determination deps) (determination deps)
unfolding determination
determination_begins false = key_begins
determination_begins true =
    begins_choice (begins_determination true) key dep
    (begins_wider (word_is (codes "key")) (begins_determination true) key (λ x e. (or_parts (word_is (codes "key") x) (word_is (codes "dep") x) e).0) key_begins)
    (begins_wider (word_is (codes "dep")) (begins_determination true) dep (λ x e. (or_parts (word_is (codes "key") x) (word_is (codes "dep") x) e).1) dep_begins)

determination_reads : (deps : Bool) → IsReader Anything (determination deps) (determination_reader deps)
unfolding determination determination_reader
determination_reads false = last_reads Anything key key_reader key_clause key_reads
determination_reads true =
    either_reads Anything (word_is (codes "key")) key dep _ _ (last_reads Anything key key_reader key_clause key_reads) (last_reads Anything dep dep_reader dep_clause dep_reads) key_begins
    (λ more ok. stops_at (word_is (codes "key")) (word_is (codes "dep")) dep more dep_begins (apart_words (codes "key") (codes "dep") refl))

-- a token that begins neither a key nor a dependency
determination_apart : (deps : Bool) (q : Lexeme → Bool) → KeptApart (word_is (codes "key")) q → KeptApart (word_is (codes "dep")) q → KeptApart (begins_determination deps) q
determination_apart false q k d = k
determination_apart true q k d = or_apart (word_is (codes "key")) (word_is (codes "dep")) q k d

pub apart_determination : (deps : Bool) (q : Lexeme → Bool) → KeptApart q (word_is (codes "key")) → KeptApart q (word_is (codes "dep")) → KeptApart q (begins_determination deps)
apart_determination false q k d = k
apart_determination true q k d = apart_or q (word_is (codes "key")) (word_is (codes "dep")) k d

-- ---- clauses

pub ref_reads : (optionals : Bool) → IsReader Anything (ref optionals) (ref_reader optionals)
unfolding ref ref_reader referred_reader
ref_reads optionals =
    then_any Anything _ _ _ _ (a (word_is (codes "ref"))) (λ keyword'.
    then_any Anything _ _ _ _ (a (mark_is (codes "("))) (λ opening.
    then_reads Anything (Stops comma) words _ words_reader _ words_reads (λ columns.
    then_any Anything _ _ _ _ (a (mark_is (codes ")"))) (λ closing.
    then_any Anything _ _ _ _ (a (mark_is (codes "->"))) (λ arrow.
    then_any Anything _ _ _ _ (a is_word) (λ referred_set.
    then_any Anything _ _ _ _ (a (mark_is (codes "("))) (λ second.
    then_reads Anything (Stops comma) words _ words_reader _ words_reads (λ referred.
    then_any Anything _ _ _ _ (a (mark_is (codes ")"))) (λ closed.
    then_reads Anything (Stops says_optional) (optional_word optionals) (mark (codes ";")) (optional_reader optionals) _ (optional_reads optionals) (λ is_optional.
    last_reads Anything (mark (codes ";")) (token (mark_is (codes ";"))) _ (a (mark_is (codes ";"))))
    (λ more ok. stops_at says_optional (mark_is (codes ";")) (mark (codes ";")) more (begins_one (mark_is (codes ";"))) (apart_word_mark (codes "optional") (codes ";")))))
    (λ more ok. comma_stops (codes ")") _ more (apart_marks (codes ",") (codes ")") refl) (begins_with (mark_is (codes ")")) _)))))))
    (λ more ok. comma_stops (codes ")") _ more (apart_marks (codes ",") (codes ")") refl) (begins_with (mark_is (codes ")")) _))))

pub last_clause_reads : (version : ℕ) → IsReader Anything (last_clause version) (last_clause_reader version)
unfolding last_clause last_clause_reader
last_clause_reads version =
    let d = since_three version in
    let b = since_two version in
    either_reads Anything (begins_determination d) (determination d) (ref b) _ _ (determination_reads d) (last_reads Anything (ref b) (ref_reader b) ref_clause (ref_reads b)) (determination_begins d)
    (λ more ok. stops_at (begins_determination d) (word_is (codes "ref")) (ref b) more (ref_begins b)
    (determination_apart d (word_is (codes "ref")) (apart_words (codes "key") (codes "ref") refl) (apart_words (codes "dep") (codes "ref") refl)))

abbrev ref_or_set : Lexeme → Bool
ref_or_set x = word_is (codes "ref") x || word_is (codes "set") x

determination_ref_set : (deps : Bool) → KeptApart (begins_determination deps) ref_or_set
determination_ref_set deps =
    determination_apart deps ref_or_set
    (apart_or (word_is (codes "key")) (word_is (codes "ref")) (word_is (codes "set")) (apart_words (codes "key") (codes "ref") refl) (apart_words (codes "key") (codes "set") refl))
    (apart_or (word_is (codes "dep")) (word_is (codes "ref")) (word_is (codes "set")) (apart_words (codes "dep") (codes "ref") refl) (apart_words (codes "dep") (codes "set") refl))

pub clause_with_reads : (version : ℕ) (inner : Form Lexeme) (r : Reader Lexeme Tree) → IsReader Anything inner r → Begins (word_is (codes "set")) inner → IsReader Anything (clause_with version inner) (clause_reader_with version r)
unfolding clause_with clause_reader_with
clause_with_reads version inner r reads begins =
    let d = since_three version in
    let b = since_two version in
    either_reads Anything (begins_determination d) (determination d) (ref b ∣ inner) _ _ (determination_reads d)
    (either_reads Anything (word_is (codes "ref")) (ref b) inner _ _ (last_reads Anything (ref b) (ref_reader b) ref_clause (ref_reads b)) (last_reads Anything inner r set_clause reads) (ref_begins b)
    (λ more ok. stops_at (word_is (codes "ref")) (word_is (codes "set")) inner more begins (apart_words (codes "ref") (codes "set") refl)))
    (determination_begins d)
    (λ more ok. stops_at (begins_determination d) ref_or_set (ref b ∣ inner) more
    (begins_choice ref_or_set (ref b) inner
    (begins_wider (word_is (codes "ref")) ref_or_set (ref b) (λ x e. (or_parts (word_is (codes "ref") x) (word_is (codes "set") x) e).0) (ref_begins b))
    (begins_wider (word_is (codes "set")) ref_or_set inner (λ x e. (or_parts (word_is (codes "ref") x) (word_is (codes "set") x) e).1) begins))
    (determination_ref_set d))

pub set_head_reads : IsReader Anything set_head set_head_reader
unfolding set_head set_head_reader
set_head_reads =
    then_any Anything _ _ _ _ (a (word_is (codes "set"))) (λ keyword'.
    then_any Anything _ _ _ _ (a is_word) (λ name.
    then_any Anything _ _ _ _ (a (mark_is (codes "{"))) (λ opening.
    then_reads Anything (Stops comma) words (mark (codes ";")) words_reader _ words_reads (λ columns.
    last_reads Anything (mark (codes ";")) (token (mark_is (codes ";"))) _ (a (mark_is (codes ";"))))
    (λ more ok. comma_stops (codes ";") _ more (apart_marks (codes ",") (codes ";") refl) (begins_one (mark_is (codes ";")))))))

pub set_of_reads : (begins : Lexeme → Bool) (inner : Form Lexeme) (r : Reader Lexeme Clause) → IsReader Anything inner r → Begins begins inner → KeptApart begins (mark_is (codes "}")) → IsReader Anything (set_of inner) (set_reader_of begins r)
unfolding set_of set_reader_of
set_of_reads begins inner r reads first apart =
    then_any Anything set_head _ set_head_reader _ set_head_reads (λ head.
    then_reads Anything (Stops begins) (repeated inner) (mark (codes "}")) (many begins r) _ (many_reads begins inner r reads first) (λ cs.
    last_reads Anything (mark (codes "}")) (token (mark_is (codes "}"))) _ (a (mark_is (codes "}"))))
    (λ more ok. stops_at begins (mark_is (codes "}")) (mark (codes "}")) more (begins_one (mark_is (codes "}"))) apart))

last_clause_begins : (version : ℕ) → Begins (begins_clause version 0) (last_clause version)
unfolding last_clause
last_clause_begins version =
    let d = since_three version in
    let b = since_two version in
    begins_choice (begins_clause version 0) (determination d) (ref b)
    (begins_wider (begins_determination d) (begins_clause version 0) (determination d) (λ x e. (or_parts (begins_determination d x) (word_is (codes "ref") x) e).0) (determination_begins d))
    (begins_wider (word_is (codes "ref")) (begins_clause version 0) (ref b) (λ x e. (or_parts (begins_determination d x) (word_is (codes "ref") x) e).1) (ref_begins b))

clause_with_begins : (version levels : ℕ) (inner : Form Lexeme) → Begins (word_is (codes "set")) inner → Begins (begins_clause version (suc levels)) (clause_with version inner)
unfolding clause_with
clause_with_begins version levels inner begins =
    let d = since_three version in
    let b = since_two version in
    let all = begins_clause version (suc levels) in
    let two : (x : Lexeme) → all x ≡ false → ref_or_set x ≡ false = λ x e. (or_parts (begins_determination d x) (ref_or_set x) e).1 in
    begins_choice all (determination d) (ref b ∣ inner)
    (begins_wider (begins_determination d) all (determination d) (λ x e. (or_parts (begins_determination d x) (ref_or_set x) e).0) (determination_begins d))
    (begins_choice all (ref b) inner
    (begins_wider (word_is (codes "ref")) all (ref b) (λ x e. (or_parts (word_is (codes "ref") x) (word_is (codes "set") x) (two x e)).0) (ref_begins b))
    (begins_wider (word_is (codes "set")) all inner (λ x e. (or_parts (word_is (codes "ref") x) (word_is (codes "set") x) (two x e)).1) begins))

pub clause_begins : (version levels : ℕ) → Begins (begins_clause version levels) (clause version levels)
unfolding clause
clause_begins version zero = last_clause_begins version
clause_begins version (suc levels) = clause_with_begins version levels (set_of (clause version levels)) (set_of_begins (clause version levels))

abbrev closing_brace : Lexeme → Bool
closing_brace = mark_is (codes "}")

determination_closing : (deps : Bool) → KeptApart (begins_determination deps) closing_brace
determination_closing deps = determination_apart deps closing_brace (apart_word_mark (codes "key") (codes "}")) (apart_word_mark (codes "dep") (codes "}"))

clause_apart : (version levels : ℕ) → KeptApart (begins_clause version levels) closing_brace
clause_apart version zero = or_apart (begins_determination (since_three version)) (word_is (codes "ref")) closing_brace (determination_closing (since_three version)) (apart_word_mark (codes "ref") (codes "}"))
clause_apart version (suc levels) =
    or_apart (begins_determination (since_three version)) ref_or_set closing_brace (determination_closing (since_three version))
    (or_apart (word_is (codes "ref")) (word_is (codes "set")) closing_brace (apart_word_mark (codes "ref") (codes "}")) (apart_word_mark (codes "set") (codes "}")))

pub clause_reads : (version levels : ℕ) → IsReader Anything (clause version levels) (clause_reader version levels)
unfolding clause clause_reader
clause_reads version zero = last_clause_reads version
clause_reads version (suc levels) =
    clause_with_reads version (set_of (clause version levels)) (set_reader_of (begins_clause version levels) (clause_reader version levels))
    (set_of_reads (begins_clause version levels) (clause version levels) (clause_reader version levels) (clause_reads version levels) (clause_begins version levels) (clause_apart version levels)) (set_of_begins (clause version levels))

pub clause_consumes : (version levels : ℕ) → Consumes (clause_reader version levels)
clause_consumes version levels = consumes (begins_clause version levels) (clause version levels) (clause_reader version levels) (clause_reads version levels) (clause_begins version levels)

pub set_reads : (version levels : ℕ) → IsReader Anything (set version levels) (set_reader version levels)
set_reads version levels = set_of_reads (begins_clause version levels) (clause version levels) (clause_reader version levels) (clause_reads version levels) (clause_begins version levels) (clause_apart version levels)

pub set_consumes : (version levels : ℕ) → Consumes (set_reader version levels)
set_consumes version levels = consumes (word_is (codes "set")) (set version levels) (set_reader version levels) (set_reads version levels) (set_of_begins (clause version levels))

-- ---- lines

pub place_reads : IsReader Anything place place_reader
unfolding place place_reader
place_reads =
    then_any Anything _ _ _ _ (a is_word) (λ s.
    then_any Anything _ _ _ _ (a (mark_is (codes "."))) (λ dot.
    last_reads Anything word (token is_word) _ (a is_word)))

pub comma_place_reads : IsReader Anything (mark (codes ",") ▸ place) comma_place
unfolding comma_place
comma_place_reads = then_any Anything (mark (codes ",")) place (token comma) _ (a comma) (λ c. place_reads)

pub comma_place_consumes : Consumes comma_place
comma_place_consumes = consumes comma (mark (codes ",") ▸ place) comma_place comma_place_reads (begins_with comma place)

pub places_reads : IsReader (Stops comma) places places_reader
unfolding places places_reader
places_reads =
    then_any (Stops comma) place (repeated (mark (codes ",") ▸ place)) place_reader _ place_reads (λ first.
    last_reads (Stops comma) (repeated (mark (codes ",") ▸ place)) (many comma comma_place) (λ others. first ∷ others)
    (many_reads comma (mark (codes ",") ▸ place) comma_place comma_place_reads (begins_with comma place)))

column_reads : (name : Lexeme) → IsReader Anything (mark (codes ".") ▸ word) (column_reader name)
unfolding column_reader
column_reads name = then_any Anything _ _ _ _ (a (mark_is (codes "."))) (λ dot. last_reads Anything word (token is_word) _ (a is_word))

call_reads : (name : Lexeme) → IsReader Anything (mark (codes "(") ▸ places ▸ mark (codes ")")) (call_reader name)
unfolding call_reader
call_reads name =
    then_any Anything _ _ _ _ (a (mark_is (codes "("))) (λ opening.
    then_reads Anything (Stops comma) places (mark (codes ")")) places_reader _ places_reads (λ args.
    last_reads Anything (mark (codes ")")) (token (mark_is (codes ")"))) _ (a (mark_is (codes ")"))))
    (λ more ok. comma_stops (codes ")") _ more (apart_marks (codes ",") (codes ")") refl) (begins_one (mark_is (codes ")")))))

behind_reads : (name : Lexeme) → IsReader Anything behind_word (either (mark_is (codes ".")) (column_reader name) (call_reader name))
unfolding behind_word
behind_reads name =
    either_reads Anything (mark_is (codes ".")) _ _ _ _ (column_reads name) (call_reads name) (begins_with (mark_is (codes ".")) word)
    (λ more ok. stops_at (mark_is (codes ".")) (mark_is (codes "(")) _ more (begins_with (mark_is (codes "(")) _) (apart_marks (codes ".") (codes "(") refl))

string_reads : IsReader Anything string string_reader
unfolding string_reader
string_reads = last_reads Anything string (token is_string) _ (a is_string)

named_reads : IsReader Anything (word ▸ behind_word) named_reader
unfolding named_reader
named_reads = then_any Anything word behind_word (token is_word) _ (a is_word) (λ name. behind_reads name)

pub source_reads : IsReader Anything line_source source_reader
unfolding line_source source_reader
source_reads =
    either_reads Anything is_string string (word ▸ behind_word) string_reader named_reader string_reads named_reads (begins_one is_string)
    (λ more ok. stops_at is_string is_word (word ▸ behind_word) more (begins_with is_word behind_word) apart_string_any_word)

pub line_reads : IsReader Anything line line_reader
unfolding line line_reader
line_reads =
    then_any Anything _ _ _ _ (a (word_is (codes "line"))) (λ keyword'.
    then_any Anything line_source _ source_reader _ source_reads (λ from.
    then_any Anything _ _ _ _ (a (mark_is (codes "->"))) (λ arrow.
    then_any Anything place _ place_reader _ place_reads (λ target.
    last_reads Anything (mark (codes ";")) (token (mark_is (codes ";"))) _ (a (mark_is (codes ";")))))))

-- ---- rules

name_reads : IsReader Anything word name_reader
unfolding name_reader
name_reads = last_reads Anything word (token is_word) _ (a is_word)

literal_reads : IsReader Anything string literal_reader
unfolding literal_reader
literal_reads = last_reads Anything string (token is_string) _ (a is_string)

pub cell_reads : (strings : Bool) → IsReader Anything (rule_cell strings) (cell_reader strings)
unfolding rule_cell cell_reader
cell_reads false = name_reads
cell_reads true =
    either_reads Anything is_word word string name_reader literal_reader name_reads literal_reads (begins_one is_word)
    (λ more ok. stops_at is_word is_string string more (begins_one is_string) apart_any_word_string)

pub comma_cell_reads : (strings : Bool) → IsReader Anything (mark (codes ",") ▸ rule_cell strings) (comma_cell strings)
unfolding comma_cell
comma_cell_reads strings = then_any Anything (mark (codes ",")) (rule_cell strings) (token comma) _ (a comma) (λ c. cell_reads strings)

pub comma_cell_consumes : (strings : Bool) → Consumes (comma_cell strings)
comma_cell_consumes strings = consumes comma (mark (codes ",") ▸ rule_cell strings) (comma_cell strings) (comma_cell_reads strings) (begins_with comma (rule_cell strings))

pub cells_reads : (strings : Bool) → IsReader (Stops comma) (cells strings) (cells_reader strings)
unfolding cells cells_reader
cells_reads strings =
    then_any (Stops comma) (rule_cell strings) (repeated (mark (codes ",") ▸ rule_cell strings)) (cell_reader strings) _ (cell_reads strings) (λ first.
    last_reads (Stops comma) (repeated (mark (codes ",") ▸ rule_cell strings)) (many comma (comma_cell strings)) (λ others. first ∷ others)
    (many_reads comma (mark (codes ",") ▸ rule_cell strings) (comma_cell strings) (comma_cell_reads strings) (begins_with comma (rule_cell strings))))

pub atom_reads : (strings : Bool) → IsReader Anything (atom strings) (atom_reader strings)
unfolding atom atom_reader
atom_reads strings =
    then_any Anything _ _ _ _ (a is_word) (λ s.
    then_any Anything _ _ _ _ (a (mark_is (codes "("))) (λ opening.
    then_reads Anything (Stops comma) (cells strings) (mark (codes ")")) (cells_reader strings) _ (cells_reads strings) (λ inside.
    last_reads Anything (mark (codes ")")) (token (mark_is (codes ")"))) _ (a (mark_is (codes ")"))))
    (λ more ok. comma_stops (codes ")") _ more (apart_marks (codes ",") (codes ")") refl) (begins_one (mark_is (codes ")"))))))

pub comma_atom_reads : (strings : Bool) → IsReader Anything (mark (codes ",") ▸ atom strings) (comma_atom strings)
unfolding comma_atom
comma_atom_reads strings = then_any Anything (mark (codes ",")) (atom strings) (token comma) _ (a comma) (λ c. atom_reads strings)

pub comma_atom_consumes : (strings : Bool) → Consumes (comma_atom strings)
comma_atom_consumes strings = consumes comma (mark (codes ",") ▸ atom strings) (comma_atom strings) (comma_atom_reads strings) (begins_with comma (atom strings))

pub atoms_reads : (strings : Bool) → IsReader (Stops comma) (atoms strings) (atoms_reader strings)
unfolding atoms atoms_reader
atoms_reads strings =
    then_any (Stops comma) (atom strings) (repeated (mark (codes ",") ▸ atom strings)) (atom_reader strings) _ (atom_reads strings) (λ first.
    last_reads (Stops comma) (repeated (mark (codes ",") ▸ atom strings)) (many comma (comma_atom strings)) (λ others. first ∷ others)
    (many_reads comma (mark (codes ",") ▸ atom strings) (comma_atom strings) (comma_atom_reads strings) (begins_with comma (atom strings))))

pub derived_reads : IsReader Anything derived derived_reader
unfolding derived derived_reader
derived_reads =
    then_any Anything _ _ _ _ (a is_word) (λ name.
    then_any Anything _ _ _ _ (a (mark_is (codes "="))) (λ equal.
    then_any Anything _ _ _ _ (a is_word) (λ call.
    then_any Anything _ _ _ _ (a (mark_is (codes "("))) (λ opening.
    then_reads Anything (Stops comma) (cells false) (mark (codes ")")) (cells_reader false) _ (cells_reads false) (λ args.
    last_reads Anything (mark (codes ")")) (token (mark_is (codes ")"))) _ (a (mark_is (codes ")"))))
    (λ more ok. comma_stops (codes ")") _ more (apart_marks (codes ",") (codes ")") refl) (begins_one (mark_is (codes ")"))))))))

pub comma_derived_reads : IsReader Anything (mark (codes ",") ▸ derived) comma_derived
unfolding comma_derived
comma_derived_reads = then_any Anything (mark (codes ",")) derived (token comma) _ (a comma) (λ c. derived_reads)

pub comma_derived_consumes : Consumes comma_derived
comma_derived_consumes = consumes comma (mark (codes ",") ▸ derived) comma_derived comma_derived_reads (begins_with comma derived)

where_reads : IsReader (Stops comma) where_part where_reader
unfolding where_part where_reader
where_reads =
    then_any (Stops comma) _ _ _ _ (a (word_is (codes "where"))) (λ keyword'.
    then_any (Stops comma) derived (repeated (mark (codes ",") ▸ derived)) derived_reader _ derived_reads (λ first.
    last_reads (Stops comma) (repeated (mark (codes ",") ▸ derived)) (many comma comma_derived) (λ others. first ∷ others)
    (many_reads comma (mark (codes ",") ▸ derived) comma_derived comma_derived_reads (begins_with comma derived))))

where_begins : Begins (word_is (codes "where")) where_part
unfolding where_part
where_begins = begins_with (word_is (codes "where")) _

-- neither a comma nor "where" begins what follows
abbrev NoMore : List (Form Lexeme) → Type 0
NoMore more = Stops comma more × Stops (word_is (codes "where")) more

optional_where_reads : IsReader NoMore (optional where_part) optional_where
unfolding optional_where
optional_where_reads =
    either_reads NoMore (word_is (codes "where")) where_part nothing where_reader (give _) (record { reads = λ more xs ok. where_reads.reads more xs ok.0; leaves = where_reads.leaves }) (nothing_reads NoMore _) where_begins
    (λ more ok. stops_past (word_is (codes "where")) nothing more (λ x e. refl) ok.1)

arrow_stops : (rest : Form Lexeme) (more : List (Form Lexeme)) → NoMore ((mark (codes "->") ▸ rest) ∷ more)
arrow_stops rest more = (
  comma_stops (codes "->") _ more (apart_marks (codes ",") (codes "->") refl) (begins_with (mark_is (codes "->")) rest),
  stops_at (word_is (codes "where")) (mark_is (codes "->")) _ more (begins_with (mark_is (codes "->")) rest) (apart_word_mark (codes "where") (codes "->")),
)

abbrev where_or_arrow : Lexeme → Bool
where_or_arrow x = word_is (codes "where") x || mark_is (codes "->") x

where_or_arrow_begins : (rest : Form Lexeme) → Begins where_or_arrow (optional where_part ▸ mark (codes "->") ▸ rest)
where_or_arrow_begins rest = record {
  some = rw where_begins.some refl;
  first = λ x e. let two = or_parts (word_is (codes "where") x) (mark_is (codes "->") x) e in rw (where_begins.first x two.0, where_begins.some, two.1) refl;
}

-- a comma begins neither "where" nor an arrow
where_stops : (rest : Form Lexeme) (more : List (Form Lexeme)) → Stops comma ((optional where_part ▸ mark (codes "->") ▸ rest) ∷ more)
where_stops rest more =
    stops_at comma where_or_arrow (optional where_part ▸ mark (codes "->") ▸ rest) more (where_or_arrow_begins rest)
    (apart_or comma (word_is (codes "where")) (mark_is (codes "->")) (apart_mark_word (codes ",") (codes "where")) (apart_marks (codes ",") (codes "->") refl))

pub rule_reads : IsReader Anything rule rule_reader
unfolding rule rule_reader
rule_reads =
    then_any Anything _ _ _ _ (a (word_is (codes "rule"))) (λ keyword'.
    then_reads Anything (Stops comma) (atoms false) _ (atoms_reader false) _ (atoms_reads false) (λ premise.
    then_reads Anything NoMore (optional where_part) _ optional_where _ optional_where_reads (λ derived'.
    then_any Anything _ _ _ _ (a (mark_is (codes "->"))) (λ arrow.
    then_reads Anything (Stops comma) (atoms true) (mark (codes ";")) (atoms_reader true) _ (atoms_reads true) (λ conclusion.
    last_reads Anything (mark (codes ";")) (token (mark_is (codes ";"))) _ (a (mark_is (codes ";"))))
    (λ more ok. comma_stops (codes ";") _ more (apart_marks (codes ",") (codes ";") refl) (begins_one (mark_is (codes ";"))))))
    (λ more ok. arrow_stops _ more))
    (λ more ok. where_stops _ more))

-- ---- mappings

line_begins : Begins (word_is (codes "line")) line
unfolding line
line_begins = begins_with (word_is (codes "line")) _

rule_begins : Begins (word_is (codes "rule")) rule
unfolding rule
rule_begins = begins_with (word_is (codes "rule")) _

only_begins : Begins (word_is (codes "only")) only
unfolding only
only_begins = begins_with (word_is (codes "only")) _

only_reads : IsReader Anything only only_reader
unfolding only only_reader
only_reads =
    then_any Anything _ _ _ _ (a (word_is (codes "only"))) (λ keyword'.
    then_any Anything place _ place_reader _ place_reads (λ column.
    then_any Anything _ _ _ _ (a is_word) (λ test.
    last_reads Anything (mark (codes ";")) (token (mark_is (codes ";"))) _ (a (mark_is (codes ";"))))))

abbrev rule_or_only : Lexeme → Bool
rule_or_only x = word_is (codes "rule") x || word_is (codes "only") x

rule_or_only_begins : Begins rule_or_only (rule ∣ only)
rule_or_only_begins =
    begins_choice rule_or_only rule only
    (begins_wider (word_is (codes "rule")) rule_or_only rule (λ x e. (or_parts (word_is (codes "rule") x) (word_is (codes "only") x) e).0) rule_begins)
    (begins_wider (word_is (codes "only")) rule_or_only only (λ x e. (or_parts (word_is (codes "rule") x) (word_is (codes "only") x) e).1) only_begins)

pub item_begins : (conditions : Bool) → Begins (begins_item conditions) (item conditions)
unfolding item
item_begins false =
    begins_choice (begins_item false) line rule
    (begins_wider (word_is (codes "line")) (begins_item false) line (λ x e. (or_parts (word_is (codes "line") x) (word_is (codes "rule") x) e).0) line_begins)
    (begins_wider (word_is (codes "rule")) (begins_item false) rule (λ x e. (or_parts (word_is (codes "line") x) (word_is (codes "rule") x) e).1) rule_begins)
item_begins true =
    begins_choice (begins_item true) line (rule ∣ only)
    (begins_wider (word_is (codes "line")) (begins_item true) line (λ x e. (or_parts (word_is (codes "line") x) (rule_or_only x) e).0) line_begins)
    (begins_wider rule_or_only (begins_item true) (rule ∣ only) (λ x e. (or_parts (word_is (codes "line") x) (rule_or_only x) e).1) rule_or_only_begins)

pub item_reads : (conditions : Bool) → IsReader Anything (item conditions) (item_reader conditions)
unfolding item item_reader
item_reads false =
    either_reads Anything (word_is (codes "line")) line rule _ _ (last_reads Anything line line_reader line_item line_reads) (last_reads Anything rule rule_reader rule_item rule_reads) line_begins
    (λ more ok. stops_at (word_is (codes "line")) (word_is (codes "rule")) rule more rule_begins (apart_words (codes "line") (codes "rule") refl))
item_reads true =
    either_reads Anything (word_is (codes "line")) line (rule ∣ only) _ _ (last_reads Anything line line_reader line_item line_reads)
    (either_reads Anything (word_is (codes "rule")) rule only _ _ (last_reads Anything rule rule_reader rule_item rule_reads) (last_reads Anything only only_reader only_item only_reads) rule_begins
    (λ more ok. stops_at (word_is (codes "rule")) (word_is (codes "only")) only more only_begins (apart_words (codes "rule") (codes "only") refl)))
    line_begins
    (λ more ok. stops_at (word_is (codes "line")) rule_or_only (rule ∣ only) more rule_or_only_begins
    (apart_or (word_is (codes "line")) (word_is (codes "rule")) (word_is (codes "only")) (apart_words (codes "line") (codes "rule") refl) (apart_words (codes "line") (codes "only") refl)))

pub item_consumes : (conditions : Bool) → Consumes (item_reader conditions)
item_consumes conditions = consumes (begins_item conditions) (item conditions) (item_reader conditions) (item_reads conditions) (item_begins conditions)

pub side_reads : (version : ℕ) (name : List ℕ) (levels : ℕ) → IsReader Anything (side version name levels) (side_reader version name levels)
unfolding side side_reader
side_reads version name levels =
    then_any Anything _ _ _ _ (a (word_is name)) (λ keyword'.
    then_any Anything _ _ _ _ (a (mark_is (codes "{"))) (λ opening.
    then_reads Anything (Stops (word_is (codes "set"))) (repeated (set version levels)) (mark (codes "}")) (many (word_is (codes "set")) (set_reader version levels)) _
    (many_reads (word_is (codes "set")) (set version levels) (set_reader version levels) (set_reads version levels) (set_of_begins (clause version levels))) (λ trees.
    last_reads Anything (mark (codes "}")) (token (mark_is (codes "}"))) _ (a (mark_is (codes "}"))))
    (λ more ok. stops_at (word_is (codes "set")) (mark_is (codes "}")) (mark (codes "}")) more (begins_one (mark_is (codes "}"))) (apart_word_mark (codes "set") (codes "}")))))

-- what begins an item of a text without conditions begins one of a text with them
fewer_begin : (conditions : Bool) (x : Lexeme) → begins_item conditions x ≡ true → begins_item true x ≡ true
fewer_begin false x e = elim (or_cases (word_is (codes "line") x) (word_is (codes "rule") x) e) [
  | inl l ↦ or_left (word_is (codes "line") x) (rule_or_only x) l
  | inr r ↦ or_right (word_is (codes "line") x) (rule_or_only x) (or_left (word_is (codes "rule") x) (word_is (codes "only") x) r)
]
fewer_begin true x e = e

-- no item begins what follows, not even one of a later version
abbrev pub NoItem : List (Form Lexeme) → Type 0
NoItem more = Stops (begins_item true) more

items_read : (conditions : Bool) → IsReader NoItem (repeated (item conditions)) (many (begins_item conditions) (item_reader conditions))
items_read conditions =
    weaker NoItem (Stops (begins_item conditions)) (repeated (item conditions)) (many (begins_item conditions) (item_reader conditions)) (λ more ok x e. ok x (fewer_begin conditions x e))
    (many_reads (begins_item conditions) (item conditions) (item_reader conditions) (item_reads conditions) (item_begins conditions))

body_reads : (version levels : ℕ) → IsReader NoItem (body version levels) (body_reader version levels)
unfolding body body_reader
body_reads version levels =
    then_any NoItem _ _ _ _ (a (mark_is (codes ";"))) (λ ending.
    then_any NoItem _ _ (side_reader version (codes "source") levels) _ (side_reads version (codes "source") levels) (λ from.
    then_any NoItem _ _ (side_reader version (codes "target") levels) _ (side_reads version (codes "target") levels) (λ to.
    last_reads NoItem (repeated (item (since_two version))) (many (begins_item (since_two version)) (item_reader (since_two version))) _ (items_read (since_two version)))))

-- the number of a version, and what stands after it
numbered_reads : (number : List ℕ) (version levels : ℕ) → IsReader NoItem (version_body number version levels) (numbered_reader number version levels)
numbered_reads number version levels = then_any NoItem _ _ _ _ (a (digit_is number)) (λ n. body_reads version levels)

numbered_begins : (number : List ℕ) (version levels : ℕ) → Begins (digit_is number) (version_body number version levels)
numbered_begins number version levels = begins_with (digit_is number) (body version levels)

abbrev two_or_three : Lexeme → Bool
two_or_three x = digit_is (codes "2") x || digit_is (codes "3") x

later_begins : (levels : ℕ) → Begins two_or_three (version_body (codes "2") 2 levels ∣ version_body (codes "3") 3 levels)
later_begins levels =
    begins_choice two_or_three (version_body (codes "2") 2 levels) (version_body (codes "3") 3 levels)
    (begins_wider (digit_is (codes "2")) two_or_three (version_body (codes "2") 2 levels) (λ x e. (or_parts (digit_is (codes "2") x) (digit_is (codes "3") x) e).0) (numbered_begins (codes "2") 2 levels))
    (begins_wider (digit_is (codes "3")) two_or_three (version_body (codes "3") 3 levels) (λ x e. (or_parts (digit_is (codes "2") x) (digit_is (codes "3") x) e).1) (numbered_begins (codes "3") 3 levels))

later_reads : (levels : ℕ) → IsReader NoItem (version_body (codes "2") 2 levels ∣ version_body (codes "3") 3 levels) (either (digit_is (codes "2")) (numbered_reader (codes "2") 2 levels) (numbered_reader (codes "3") 3 levels))
later_reads levels =
    either_reads NoItem (digit_is (codes "2")) _ _ _ _ (numbered_reads (codes "2") 2 levels) (numbered_reads (codes "3") 3 levels) (numbered_begins (codes "2") 2 levels)
    (λ more ok. stops_at (digit_is (codes "2")) (digit_is (codes "3")) _ more (numbered_begins (codes "3") 3 levels) (apart_numbers (codes "2") (codes "3") refl))

pub mapping_reads : (levels : ℕ) → IsReader NoItem (mapping levels) (mapping_reader levels)
unfolding mapping mapping_reader
mapping_reads levels =
    then_any NoItem _ _ _ _ (a (word_is (codes "mapping"))) (λ keyword'.
    either_reads NoItem (digit_is (codes "1")) _ _ _ _ (numbered_reads (codes "1") 1 levels) (later_reads levels) (numbered_begins (codes "1") 1 levels)
    (λ more ok. stops_at (digit_is (codes "1")) two_or_three _ more (later_begins levels)
    (apart_or (digit_is (codes "1")) (digit_is (codes "2")) (digit_is (codes "3")) (apart_numbers (codes "1") (codes "2") refl) (apart_numbers (codes "1") (codes "3") refl))))

-- What is read is spelled.
use Rattle.std.proofs.Common.{◌≡◌, ℕ, zero, suc, Bool, true, false, List, [], ◌∷◌, ◌++◌, refl}
use Rattle.std.specs.Prelude.{codes}
use Rattle.dx_tokens.specs.declared.scanner.Lexeme.{Lexeme}
use Rattle.dx_grammar.specs.Readers.{Reader, ◌>>=◌, give, token, many, Many, no_more, one_more}
use Rattle.dx_grammar.proofs.Spelled.{Finds, give_finds, then_finds, last_finds, head_finds, either_finds, many_finds, finds_wider}
use Rattle.dx_schema.specs.Forest.{Tree}
use Rattle.dx_schema_text.specs.declared.clauses.Clause.{Clause}
use Rattle.dx_schema_text.specs.Grammar.{is_word, is_string, word_is, digit_is, mark_is, since_two, since_three}
use Rattle.dx_schema_text.specs.Reading.{comma_word, words_reader, key_reader, decided_reader, dep_reader, optional_reader, referred_reader, ref_reader, key_clause, dep_clause, ref_clause, set_clause, begins_determination, determination_reader, begins_clause, last_clause_reader, clause_reader_with, set_head_reader, set_reader_of, clause_reader, set_reader, place_reader, comma_place, places_reader, string_reader, column_reader, call_reader, named_reader, source_reader, line_reader, name_reader, literal_reader, cell_reader, comma_cell, cells_reader, atom_reader, comma_atom, atoms_reader, derived_reader, comma_derived, where_reader, optional_where, rule_reader, only_reader, line_item, rule_item, only_item, begins_item, item_reader, side_reader, body_reader, mapping_reader}
use Rattle.dx_schema_text.specs.Spelling.{IsWordToken, IsKeyword, Comma, comma_then, SpellsCommaList, parted, SpellsName, name_of, SpellsKey, key_of, SpellsDep, dep_of, SpellsOptional, not_optional, is_optional, SpellsRef, ref_of, SpellsHead, head_of, SpellsSet, set_of, SpellsClauses, no_clause, clause_first, SpellsClause, a_key, a_dep, a_ref, a_set, SpellsPlace, place_of, SpellsSource, a_literal, a_column, a_call, SpellsLine, line_of, SpellsCell, a_name, a_text, SpellsAtom, atom_of, SpellsDerived, derived_of, SpellsWhere, no_where, where_of, SpellsRule, rule_of, SpellsOnly, only_of, SpellsItem, a_line, a_rule, a_condition, SpellsSide, side_of, IsVersion, version_one, version_two, version_three, SpellsMapping, mapping_of}

-- a comma, and what another reader reads
comma_finds : {A : Type 0} (r : Reader Lexeme A) (R : A → List Lexeme → Type 0) → Finds r R → Finds (token (mark_is (codes ",")) >>= λ c. r) (Comma R)
comma_finds r R one = head_finds (mark_is (codes ",")) (λ c. r) (Comma R) (λ c e. finds_wider r R (λ a u. Comma R a (c ∷ u)) one (λ a u h. comma_then c e h))

-- one or more
parted_finds : {A : Type 0} (r q : Reader Lexeme A) (R : A → List Lexeme → Type 0) → Finds r R → Finds q (Comma R) → Finds (r >>= λ first. many (mark_is (codes ",")) q >>= λ others. give (first ∷ others)) (SpellsCommaList R)
parted_finds r q R one more =
    then_finds r _ R (SpellsCommaList R) one (λ first u h. last_finds (many (mark_is (codes ",")) q) (λ others. first ∷ others) (Many (Comma R)) (λ items v. SpellsCommaList R items (u ++ v)) (many_finds (mark_is (codes ",")) q (Comma R) more) (λ others v m. parted h m))

-- ---- sets

comma_word_finds : Finds comma_word (Comma SpellsName)
unfolding comma_word
comma_word_finds = comma_finds (token is_word >>= λ w. give w.text) SpellsName (head_finds is_word _ SpellsName (λ w e. give_finds w.text _ (name_of w e)))

words_finds : Finds words_reader (SpellsCommaList SpellsName)
unfolding words_reader
words_finds =
    head_finds is_word _ (SpellsCommaList SpellsName) (λ w e. last_finds (many (mark_is (codes ",")) comma_word) (λ others. w.text ∷ others) (Many (Comma SpellsName)) (λ items v. SpellsCommaList SpellsName items (w ∷ v))
    (many_finds (mark_is (codes ",")) comma_word (Comma SpellsName) comma_word_finds) (λ others v m. parted (name_of w e) m))

key_finds : Finds key_reader SpellsKey
unfolding key_reader
key_finds =
    head_finds (word_is (codes "key")) _ SpellsKey (λ k kw. head_finds (mark_is (codes "(")) _ _ (λ o ow. then_finds words_reader _ (SpellsCommaList SpellsName) _ words_finds (λ ws u h.
    head_finds (mark_is (codes ")")) _ _ (λ c cw. head_finds (mark_is (codes ";")) _ _ (λ e ew. give_finds _ _ (key_of k o c e kw ow h cw ew))))))

dep_finds : Finds dep_reader SpellsDep
unfolding dep_reader decided_reader
dep_finds =
    head_finds (word_is (codes "dep")) _ SpellsDep (λ k kw. head_finds (mark_is (codes "(")) _ _ (λ o ow. then_finds words_reader _ (SpellsCommaList SpellsName) _ words_finds (λ ws u h.
    head_finds (mark_is (codes ")")) _ _ (λ c cw. head_finds (mark_is (codes "->")) _ _ (λ arrow aw. head_finds (mark_is (codes "(")) _ _ (λ p pw.
    then_finds words_reader _ (SpellsCommaList SpellsName) _ words_finds (λ vs v g. head_finds (mark_is (codes ")")) _ _ (λ d dw. head_finds (mark_is (codes ";")) _ _ (λ e ew.
    give_finds _ _ (dep_of k o c arrow p d e kw ow h cw aw pw g dw ew))))))))))

optional_finds : (optionals : Bool) → Finds (optional_reader optionals) (SpellsOptional optionals)
unfolding optional_reader
optional_finds false = give_finds false (SpellsOptional false) not_optional
optional_finds true =
    either_finds (word_is (codes "optional")) _ _ (SpellsOptional true) (head_finds (word_is (codes "optional")) _ (SpellsOptional true) (λ k kw. give_finds true _ (is_optional k kw))) (give_finds false (SpellsOptional true) not_optional)

ref_finds : (optionals : Bool) → Finds (ref_reader optionals) (SpellsRef optionals)
unfolding ref_reader referred_reader
ref_finds optionals =
    head_finds (word_is (codes "ref")) _ (SpellsRef optionals) (λ k kw. head_finds (mark_is (codes "(")) _ _ (λ o ow. then_finds words_reader _ (SpellsCommaList SpellsName) _ words_finds (λ ws u h.
    head_finds (mark_is (codes ")")) _ _ (λ c cw. head_finds (mark_is (codes "->")) _ _ (λ arrow aw. head_finds is_word _ _ (λ s sw. head_finds (mark_is (codes "(")) _ _ (λ p pw.
    then_finds words_reader _ (SpellsCommaList SpellsName) _ words_finds (λ vs v g. head_finds (mark_is (codes ")")) _ _ (λ d dw. then_finds (optional_reader optionals) _ (SpellsOptional optionals) _ (optional_finds optionals) (λ b w f. head_finds (mark_is (codes ";")) _ _ (λ e ew.
    give_finds _ _ (ref_of k o c arrow s p d e kw ow h cw aw sw pw g dw f ew))))))))))))

pub set_head_finds : Finds set_head_reader (λ h u. SpellsHead h.0 h.1 u)
unfolding set_head_reader
set_head_finds =
    head_finds (word_is (codes "set")) _ _ (λ k kw. head_finds is_word _ _ (λ n nw. head_finds (mark_is (codes "{")) _ _ (λ o ow. then_finds words_reader _ (SpellsCommaList SpellsName) _ words_finds (λ ws u h.
    head_finds (mark_is (codes ";")) _ _ (λ e ew. give_finds _ _ (head_of k n o e kw nw ow h ew))))))

pub clauses_of : (version levels : ℕ) {cs : List Clause} {u : List Lexeme} → Many (SpellsClause version levels) cs u → SpellsClauses version levels cs u
clauses_of version levels no_more = no_clause
clauses_of version levels (one_more h m) = clause_first h (clauses_of version levels m)

-- a key or a dependency, in a text in which dependencies may stand or not
determination_finds : (version levels : ℕ) (deps : Bool) → since_three version ≡ deps → Finds (determination_reader deps) (SpellsClause version levels)
unfolding determination_reader
determination_finds version levels false is = last_finds key_reader key_clause SpellsKey (SpellsClause version levels) key_finds (λ k u h. a_key h)
determination_finds version levels true is =
    either_finds (word_is (codes "key")) _ _ (SpellsClause version levels) (last_finds key_reader key_clause SpellsKey (SpellsClause version levels) key_finds (λ k u h. a_key h))
    (last_finds dep_reader dep_clause SpellsDep (SpellsClause version levels) dep_finds (λ d u h. a_dep is h))

pub last_clause_finds : (version : ℕ) → Finds (last_clause_reader version) (SpellsClause version 0)
unfolding last_clause_reader
last_clause_finds version =
    either_finds (begins_determination (since_three version)) _ _ (SpellsClause version 0) (determination_finds version 0 (since_three version) refl) (last_finds (ref_reader (since_two version)) ref_clause (SpellsRef (since_two version)) (SpellsClause version 0) (ref_finds (since_two version)) (λ r u h. a_ref h))

clause_with_finds : (version levels : ℕ) (r : Reader Lexeme Tree) → Finds r (SpellsSet version levels) → Finds (clause_reader_with version r) (SpellsClause version (suc levels))
unfolding clause_reader_with
clause_with_finds version levels r one =
    either_finds (begins_determination (since_three version)) _ _ (SpellsClause version (suc levels)) (determination_finds version (suc levels) (since_three version) refl)
    (either_finds (word_is (codes "ref")) _ _ (SpellsClause version (suc levels)) (last_finds (ref_reader (since_two version)) ref_clause (SpellsRef (since_two version)) (SpellsClause version (suc levels)) (ref_finds (since_two version)) (λ r u h. a_ref h)) (last_finds r set_clause (SpellsSet version levels) (SpellsClause version (suc levels)) one (λ t u h. a_set h)))

set_of_finds : (version levels : ℕ) → Finds (clause_reader version levels) (SpellsClause version levels) → Finds (set_reader version levels) (SpellsSet version levels)
unfolding set_reader_of
set_of_finds version levels one =
    then_finds set_head_reader _ (λ h u. SpellsHead h.0 h.1 u) (SpellsSet version levels) set_head_finds (λ head u h.
    then_finds (many (begins_clause version levels) (clause_reader version levels)) _ (Many (SpellsClause version levels)) _ (many_finds (begins_clause version levels) (clause_reader version levels) (SpellsClause version levels) one) (λ cs v m.
    head_finds (mark_is (codes "}")) _ _ (λ c cw. give_finds _ _ (set_of c h (clauses_of version levels m) cw))))

pub clause_finds : (version levels : ℕ) → Finds (clause_reader version levels) (SpellsClause version levels)
unfolding clause_reader
clause_finds version zero = last_clause_finds version
clause_finds version (suc levels) = clause_with_finds version levels (set_reader version levels) (set_of_finds version levels (clause_finds version levels))

pub set_finds : (version levels : ℕ) → Finds (set_reader version levels) (SpellsSet version levels)
set_finds version levels = set_of_finds version levels (clause_finds version levels)

-- ---- lines

place_finds : Finds place_reader SpellsPlace
unfolding place_reader
place_finds = head_finds is_word _ SpellsPlace (λ s sw. head_finds (mark_is (codes ".")) _ _ (λ dot dw. head_finds is_word _ _ (λ c cw. give_finds _ _ (place_of s dot c sw dw cw))))

comma_place_finds : Finds comma_place (Comma SpellsPlace)
unfolding comma_place
comma_place_finds = comma_finds place_reader SpellsPlace place_finds

places_finds : Finds places_reader (SpellsCommaList SpellsPlace)
unfolding places_reader
places_finds = parted_finds place_reader comma_place SpellsPlace place_finds comma_place_finds

column_finds : (n : Lexeme) → IsWordToken n → Finds (column_reader n) (λ s v. SpellsSource s (n ∷ v))
unfolding column_reader
column_finds n nw = head_finds (mark_is (codes ".")) _ _ (λ dot dw. head_finds is_word _ _ (λ c cw. give_finds _ _ (a_column (place_of n dot c nw dw cw))))

call_finds : (n : Lexeme) → IsWordToken n → Finds (call_reader n) (λ s v. SpellsSource s (n ∷ v))
unfolding call_reader
call_finds n nw = head_finds (mark_is (codes "(")) _ _ (λ o ow. then_finds places_reader _ (SpellsCommaList SpellsPlace) _ places_finds (λ args u h. head_finds (mark_is (codes ")")) _ _ (λ c cw. give_finds _ _ (a_call n o c nw ow h cw))))

named_finds : Finds named_reader SpellsSource
unfolding named_reader
named_finds = head_finds is_word _ SpellsSource (λ n nw. either_finds (mark_is (codes ".")) (column_reader n) (call_reader n) (λ s v. SpellsSource s (n ∷ v)) (column_finds n nw) (call_finds n nw))

string_finds : Finds string_reader SpellsSource
unfolding string_reader
string_finds = head_finds is_string _ SpellsSource (λ s sw. give_finds _ _ (a_literal s sw))

source_finds : Finds source_reader SpellsSource
unfolding source_reader
source_finds = either_finds is_string string_reader named_reader SpellsSource string_finds named_finds

line_finds : Finds line_reader SpellsLine
unfolding line_reader
line_finds =
    head_finds (word_is (codes "line")) _ SpellsLine (λ k kw. then_finds source_reader _ SpellsSource _ source_finds (λ from u h. head_finds (mark_is (codes "->")) _ _ (λ arrow aw.
    then_finds place_reader _ SpellsPlace _ place_finds (λ to v g. head_finds (mark_is (codes ";")) _ _ (λ e ew. give_finds _ _ (line_of k arrow e kw h aw g ew))))))

-- ---- rules

name_finds : (strings : Bool) → Finds name_reader (SpellsCell strings)
unfolding name_reader
name_finds strings = head_finds is_word _ (SpellsCell strings) (λ w e. give_finds _ _ (a_name w e))

literal_finds : Finds literal_reader (SpellsCell true)
unfolding literal_reader
literal_finds = head_finds is_string _ (SpellsCell true) (λ s e. give_finds _ _ (a_text s e))

cell_finds : (strings : Bool) → Finds (cell_reader strings) (SpellsCell strings)
unfolding cell_reader
cell_finds false = name_finds false
cell_finds true = either_finds is_word name_reader literal_reader (SpellsCell true) (name_finds true) literal_finds

comma_cell_finds : (strings : Bool) → Finds (comma_cell strings) (Comma (SpellsCell strings))
unfolding comma_cell
comma_cell_finds strings = comma_finds (cell_reader strings) (SpellsCell strings) (cell_finds strings)

pub cells_finds : (strings : Bool) → Finds (cells_reader strings) (SpellsCommaList (SpellsCell strings))
unfolding cells_reader
cells_finds strings = parted_finds (cell_reader strings) (comma_cell strings) (SpellsCell strings) (cell_finds strings) (comma_cell_finds strings)

atom_finds : (strings : Bool) → Finds (atom_reader strings) (SpellsAtom strings)
unfolding atom_reader
atom_finds strings =
    head_finds is_word _ (SpellsAtom strings) (λ s sw. head_finds (mark_is (codes "(")) _ _ (λ o ow. then_finds (cells_reader strings) _ (SpellsCommaList (SpellsCell strings)) _ (cells_finds strings) (λ cs u h.
    head_finds (mark_is (codes ")")) _ _ (λ c cw. give_finds _ _ (atom_of s o c sw ow h cw)))))

comma_atom_finds : (strings : Bool) → Finds (comma_atom strings) (Comma (SpellsAtom strings))
unfolding comma_atom
comma_atom_finds strings = comma_finds (atom_reader strings) (SpellsAtom strings) (atom_finds strings)

pub atoms_finds : (strings : Bool) → Finds (atoms_reader strings) (SpellsCommaList (SpellsAtom strings))
unfolding atoms_reader
atoms_finds strings = parted_finds (atom_reader strings) (comma_atom strings) (SpellsAtom strings) (atom_finds strings) (comma_atom_finds strings)

derived_finds : Finds derived_reader SpellsDerived
unfolding derived_reader
derived_finds =
    head_finds is_word _ SpellsDerived (λ n nw. head_finds (mark_is (codes "=")) _ _ (λ equal qw. head_finds is_word _ _ (λ call kw. head_finds (mark_is (codes "(")) _ _ (λ o ow.
    then_finds (cells_reader false) _ (SpellsCommaList (SpellsCell false)) _ (cells_finds false) (λ args u h. head_finds (mark_is (codes ")")) _ _ (λ c cw. give_finds _ _ (derived_of n equal call o c nw qw kw ow h cw)))))))

comma_derived_finds : Finds comma_derived (Comma SpellsDerived)
unfolding comma_derived
comma_derived_finds = comma_finds derived_reader SpellsDerived derived_finds

where_finds : Finds where_reader SpellsWhere
unfolding where_reader
where_finds =
    head_finds (word_is (codes "where")) _ SpellsWhere (λ k kw. finds_wider _ (SpellsCommaList SpellsDerived) (λ ds u. SpellsWhere ds (k ∷ u))
    (parted_finds derived_reader comma_derived SpellsDerived derived_finds comma_derived_finds) (λ ds u h. where_of k kw h))

optional_where_finds : Finds optional_where SpellsWhere
unfolding optional_where
optional_where_finds = either_finds (word_is (codes "where")) where_reader (give []) SpellsWhere where_finds (give_finds [] SpellsWhere no_where)

rule_finds : Finds rule_reader SpellsRule
unfolding rule_reader
rule_finds =
    head_finds (word_is (codes "rule")) _ SpellsRule (λ k kw. then_finds (atoms_reader false) _ (SpellsCommaList (SpellsAtom false)) _ (atoms_finds false) (λ premise u h.
    then_finds optional_where _ SpellsWhere _ optional_where_finds (λ ds v g. head_finds (mark_is (codes "->")) _ _ (λ arrow aw.
    then_finds (atoms_reader true) _ (SpellsCommaList (SpellsAtom true)) _ (atoms_finds true) (λ conclusion w f. head_finds (mark_is (codes ";")) _ _ (λ e ew. give_finds _ _ (rule_of k arrow e kw h g aw f ew)))))))

-- ---- conditions

only_finds : Finds only_reader SpellsOnly
unfolding only_reader
only_finds =
    head_finds (word_is (codes "only")) _ SpellsOnly (λ k kw. then_finds place_reader _ SpellsPlace _ place_finds (λ p u h. head_finds is_word _ _ (λ t tw. head_finds (mark_is (codes ";")) _ _ (λ e ew. give_finds _ _ (only_of k t e kw h tw ew)))))

-- ---- mappings

line_item_finds : (conditions : Bool) → Finds (line_reader >>= λ l. give (line_item l)) (SpellsItem conditions)
line_item_finds conditions = last_finds line_reader line_item SpellsLine (SpellsItem conditions) line_finds (λ l u h. a_line h)

rule_item_finds : (conditions : Bool) → Finds (rule_reader >>= λ r. give (rule_item r)) (SpellsItem conditions)
rule_item_finds conditions = last_finds rule_reader rule_item SpellsRule (SpellsItem conditions) rule_finds (λ r u h. a_rule h)

item_finds : (conditions : Bool) → Finds (item_reader conditions) (SpellsItem conditions)
unfolding item_reader
item_finds false = either_finds (word_is (codes "line")) _ _ (SpellsItem false) (line_item_finds false) (rule_item_finds false)
item_finds true =
    either_finds (word_is (codes "line")) _ _ (SpellsItem true) (line_item_finds true)
    (either_finds (word_is (codes "rule")) _ _ (SpellsItem true) (rule_item_finds true) (last_finds only_reader only_item SpellsOnly (SpellsItem true) only_finds (λ o u h. a_condition h)))

pub side_finds : (version : ℕ) (name : List ℕ) (levels : ℕ) → Finds (side_reader version name levels) (SpellsSide version name levels)
unfolding side_reader
side_finds version name levels =
    head_finds (word_is name) _ (SpellsSide version name levels) (λ k kw. head_finds (mark_is (codes "{")) _ _ (λ o ow. then_finds (many (word_is (codes "set")) (set_reader version levels)) _ (Many (SpellsSet version levels)) _ (many_finds (word_is (codes "set")) (set_reader version levels) (SpellsSet version levels) (set_finds version levels)) (λ trees u m.
    head_finds (mark_is (codes "}")) _ _ (λ c cw. give_finds _ _ (side_of k o c kw ow m cw)))))

body_finds : (version levels : ℕ) (k n : Lexeme) → IsKeyword (codes "mapping") k → IsVersion version n → Finds (body_reader version levels) (λ m w. SpellsMapping levels m (k ∷ n ∷ w))
unfolding body_reader
body_finds version levels k n kw nw =
    head_finds (mark_is (codes ";")) _ _ (λ e ew.
    then_finds (side_reader version (codes "source") levels) _ (SpellsSide version (codes "source") levels) _ (side_finds version (codes "source") levels) (λ from u h.
    then_finds (side_reader version (codes "target") levels) _ (SpellsSide version (codes "target") levels) _ (side_finds version (codes "target") levels) (λ to v g.
    last_finds (many (begins_item (since_two version)) (item_reader (since_two version))) _ (Many (SpellsItem (since_two version))) _
    (many_finds (begins_item (since_two version)) (item_reader (since_two version)) (SpellsItem (since_two version)) (item_finds (since_two version))) (λ rest w m. mapping_of k n e kw nw ew h g m))))

pub mapping_finds : (levels : ℕ) → Finds (mapping_reader levels) (SpellsMapping levels)
unfolding mapping_reader
mapping_finds levels =
    head_finds (word_is (codes "mapping")) _ (SpellsMapping levels) (λ k kw.
    either_finds (digit_is (codes "1")) _ _ (λ m w. SpellsMapping levels m (k ∷ w))
    (head_finds (digit_is (codes "1")) _ _ (λ n nw. body_finds 1 levels k n kw (version_one nw)))
    (either_finds (digit_is (codes "2")) _ _ (λ m w. SpellsMapping levels m (k ∷ w))
    (head_finds (digit_is (codes "2")) _ _ (λ n nw. body_finds 2 levels k n kw (version_two nw)))
    (head_finds (digit_is (codes "3")) _ _ (λ n nw. body_finds 3 levels k n kw (version_three nw)))))

-- The tokens that spell mappings are the texts of the form, and its starts are their fronts.
use Rattle.std.proofs.Common.{◌≡◌, ℕ, zero, suc, ◌-◌, ◌≤◌, Bool, true, false, List, [], length, Result, Ok, Err, refl, sym, subst, arith}
use Rattle.std.specs.Prelude.{codes}
use Rattle.std.proofs.lemmas.List.{take_all}
use Rattle.dx_tokens.specs.declared.tokenizer.TokenKind.{TokenKind}
use Rattle.dx_tokens.specs.declared.tokenizer.TokenKind.TheVariants.{Word, Number, Str, Mark}
use Rattle.dx_tokens.specs.declared.scanner.Lexeme.{Lexeme}
use Rattle.dx_grammar.specs.Forms.{Starts, Derives}
use Rattle.dx_grammar.specs.Laws.{HasTokens}
use Rattle.dx_grammar.specs.Readers.{whole, TellsOfTokens}
use Rattle.dx_grammar.proofs.Exact.{whole_start}
use Rattle.dx_grammar.proofs.Told.{start_take}
use Rattle.dx_grammar.proofs.Fronts.{starts_fronts}
use Rattle.dx_grammar.proofs.Spelled.{whole_again, whole_finds}
use Rattle.dx_schema_text.specs.declared.texts.MappingText.{MappingText}
use Rattle.dx_schema_text.specs.Grammar.{word, string, since_two, since_three, words, key, dep, determination, optional_word, ref, set_head, set_of, last_clause, clause_with, clause, set, place, places, behind_word, line_source, line, rule_cell, cells, atom, atoms, derived, where_part, rule, only, item, side, body, mapping}
use Rattle.dx_schema_text.specs.Reading.{mapping_reader}
use Rattle.dx_schema_text.specs.Spelling.{SpellsMapping}
use Rattle.dx_schema_text.specs.Texts.{deepest, mapping_form, deeper_form}
use Rattle.dx_schema_text.specs.Laws.{SpelledAreTexts, StandingGoesOn}
use Rattle.dx_schema_text.proofs.Found.{mapping_finds}
use Rattle.dx_schema_text.proofs.Again.{NoItemNext, mapping_again}
use Rattle.dx_schema_text.proofs.Telling.{mapping_tells}

-- ---- what spells a mapping is a text

le_same : (n : ℕ) → n ≤ n
le_same n = omega arith

to_text : (xs : List Lexeme) → ((m : MappingText) × SpellsMapping deepest m xs) → Derives mapping_form xs
to_text xs s = subst (TellsOfTokens mapping_form xs) (whole_again (mapping_reader deepest) (SpellsMapping deepest) NoItemNext (mapping_again deepest) refl s.0 xs s.1) (mapping_tells deepest xs)

to_spelled : (xs : List Lexeme) → Derives mapping_form xs → (m : MappingText) × SpellsMapping deepest m xs
to_spelled xs d = answer (whole (mapping_reader deepest) xs) refl (mapping_tells deepest xs)
  where
    answer : (r : Result MappingText ℕ) → whole (mapping_reader deepest) xs ≡ r → TellsOfTokens mapping_form xs (whole (mapping_reader deepest) xs) → (m : MappingText) × SpellsMapping deepest m xs
    answer (Ok m) is t = (m, whole_finds (mapping_reader deepest) (SpellsMapping deepest) (mapping_finds deepest) xs m is)
    answer (Err zero) is t = let h = subst (TellsOfTokens mapping_form xs) is t in absurd (h.1 d)
    answer (Err (suc left)) is t =
        let h = subst (TellsOfTokens mapping_form xs) is t in
        let all = subst (Starts mapping_form) (sym (take_all (length xs) xs (le_same (length xs)))) (whole_start mapping_form xs d) in
        absurd (h.1.here (start_take mapping_form (suc (length xs - suc left)) (length xs) xs h.1.inside all))

pub spelled_are_texts : SpelledAreTexts
spelled_are_texts xs = (to_text xs, to_spelled xs)

-- ---- some token passes each test

infixr 6 ◌&◌
abbrev ◌&◌ : {A B : Type 0} → A → B → A × B
a & b = (a, b)

abbrev made : TokenKind → List ℕ → Lexeme
made kind text = record { place = 0; kind = kind; text = text }

w : HasTokens word
w = (made Word [], refl)

s : HasTokens string
s = (made Str [], refl)

words_tokens : HasTokens words
unfolding words
words_tokens = w & ((made Mark (codes ","), refl) & w)

key_tokens : HasTokens key
unfolding key
key_tokens = (made Word (codes "key"), refl) & (made Mark (codes "("), refl) & words_tokens & (made Mark (codes ")"), refl) & (made Mark (codes ";"), refl)

dep_tokens : HasTokens dep
unfolding dep
dep_tokens =
    (made Word (codes "dep"), refl) & (made Mark (codes "("), refl) & words_tokens & (made Mark (codes ")"), refl) & (made Mark (codes "->"), refl)
    & (made Mark (codes "("), refl) & words_tokens & (made Mark (codes ")"), refl) & (made Mark (codes ";"), refl)

determination_tokens : (deps : Bool) → HasTokens (determination deps)
unfolding determination
determination_tokens false = key_tokens
determination_tokens true = key_tokens & dep_tokens

optional_tokens : (optionals : Bool) → HasTokens (optional_word optionals)
unfolding optional_word
optional_tokens false = tt
optional_tokens true = (made Word (codes "optional"), refl) & tt

ref_tokens : (optionals : Bool) → HasTokens (ref optionals)
unfolding ref
ref_tokens optionals =
    (made Word (codes "ref"), refl) & (made Mark (codes "("), refl) & words_tokens & (made Mark (codes ")"), refl) & (made Mark (codes "->"), refl)
    & w & (made Mark (codes "("), refl) & words_tokens & (made Mark (codes ")"), refl) & optional_tokens optionals & (made Mark (codes ";"), refl)

set_tokens : (version levels : ℕ) → HasTokens (clause version levels) → HasTokens (set version levels)
unfolding set_of set_head
set_tokens version levels c = ((made Word (codes "set"), refl) & w & (made Mark (codes "{"), refl) & words_tokens & (made Mark (codes ";"), refl)) & c & (made Mark (codes "}"), refl)

clause_tokens : (version levels : ℕ) → HasTokens (clause version levels)
unfolding clause last_clause clause_with
clause_tokens version zero = determination_tokens (since_three version) & ref_tokens (since_two version)
clause_tokens version (suc levels) = determination_tokens (since_three version) & ref_tokens (since_two version) & set_tokens version levels (clause_tokens version levels)

place_tokens : HasTokens place
unfolding place
place_tokens = w & (made Mark (codes "."), refl) & w

source_tokens : HasTokens line_source
unfolding line_source behind_word places
source_tokens =
    s & (w & (((made Mark (codes "."), refl) & w)
    & ((made Mark (codes "("), refl) & (place_tokens & ((made Mark (codes ","), refl) & place_tokens)) & (made Mark (codes ")"), refl))))

line_tokens : HasTokens line
unfolding line
line_tokens = (made Word (codes "line"), refl) & source_tokens & (made Mark (codes "->"), refl) & place_tokens & (made Mark (codes ";"), refl)

cell_tokens : (strings : Bool) → HasTokens (rule_cell strings)
unfolding rule_cell
cell_tokens false = w
cell_tokens true = w & s

cells_tokens : (strings : Bool) → HasTokens (cells strings)
unfolding cells
cells_tokens strings = cell_tokens strings & ((made Mark (codes ","), refl) & cell_tokens strings)

atom_tokens : (strings : Bool) → HasTokens (atom strings)
unfolding atom
atom_tokens strings = w & (made Mark (codes "("), refl) & cells_tokens strings & (made Mark (codes ")"), refl)

atoms_tokens : (strings : Bool) → HasTokens (atoms strings)
unfolding atoms
atoms_tokens strings = atom_tokens strings & ((made Mark (codes ","), refl) & atom_tokens strings)

derived_tokens : HasTokens derived
unfolding derived
derived_tokens = w & (made Mark (codes "="), refl) & w & (made Mark (codes "("), refl) & cells_tokens false & (made Mark (codes ")"), refl)

where_tokens : HasTokens where_part
unfolding where_part
where_tokens = (made Word (codes "where"), refl) & derived_tokens & ((made Mark (codes ","), refl) & derived_tokens)

rule_tokens : HasTokens rule
unfolding rule
rule_tokens = (made Word (codes "rule"), refl) & atoms_tokens false & (where_tokens & tt) & (made Mark (codes "->"), refl) & atoms_tokens true & (made Mark (codes ";"), refl)

only_tokens : HasTokens only
unfolding only
only_tokens = (made Word (codes "only"), refl) & place_tokens & w & (made Mark (codes ";"), refl)

item_tokens : (conditions : Bool) → HasTokens (item conditions)
unfolding item
item_tokens false = line_tokens & rule_tokens
item_tokens true = line_tokens & rule_tokens & only_tokens

body_tokens : (version levels : ℕ) → HasTokens (body version levels)
unfolding body side
body_tokens version levels =
    let sets = set_tokens version levels (clause_tokens version levels) in
    (made Mark (codes ";"), refl)
    & ((made Word (codes "source"), refl) & (made Mark (codes "{"), refl) & sets & (made Mark (codes "}"), refl))
    & ((made Word (codes "target"), refl) & (made Mark (codes "{"), refl) & sets & (made Mark (codes "}"), refl))
    & item_tokens (since_two version)

mapping_tokens : (levels : ℕ) → HasTokens (mapping levels)
unfolding mapping
mapping_tokens levels =
    (made Word (codes "mapping"), refl)
    & (((made Number (codes "1"), refl) & body_tokens 1 levels) & (((made Number (codes "2"), refl) & body_tokens 2 levels) & ((made Number (codes "3"), refl) & body_tokens 3 levels)))

pub standing_goes_on : StandingGoesOn
standing_goes_on = (starts_fronts mapping_form (mapping_tokens deepest), starts_fronts deeper_form (mapping_tokens 16))

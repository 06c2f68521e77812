-- The grammar of mapping texts, over tokens with their texts.
use Rattle.std.specs.Prelude.{ℕ, zero, suc, Bool, true, false, ◌&&◌, List, codes, nat_eq, nat_le}
use Rattle.std.specs.Cmp.Lexicographic.{pointwise}
use Rattle.dx_grammar.specs.Forms.{Form, nothing, one, ◌▸◌, ◌∣◌, repeated, optional}
use Rattle.dx_tokens.specs.declared.tokenizer.TokenKind.{TokenKind}
use Rattle.dx_tokens.specs.declared.tokenizer.TokenKind.TheVariants.{Word, Number, Str, Mark}
use Rattle.dx_tokens.specs.declared.scanner.Lexeme.{Lexeme}

-- ---- tokens

-- the kind of words, of numbers, of strings, of marks
abbrev pub is_word_kind : TokenKind → Bool
is_word_kind Word = true
is_word_kind Number = false
is_word_kind Str = false
is_word_kind Mark = false

abbrev pub is_number_kind : TokenKind → Bool
is_number_kind Word = false
is_number_kind Number = true
is_number_kind Str = false
is_number_kind Mark = false

abbrev pub is_string_kind : TokenKind → Bool
is_string_kind Word = false
is_string_kind Number = false
is_string_kind Str = true
is_string_kind Mark = false

abbrev pub is_mark_kind : TokenKind → Bool
is_mark_kind Word = false
is_mark_kind Number = false
is_mark_kind Str = false
is_mark_kind Mark = true

-- the token is a word, a string
abbrev pub is_word : Lexeme → Bool
is_word x = is_word_kind x.kind

abbrev pub is_string : Lexeme → Bool
is_string x = is_string_kind x.kind

-- this word, this number, this mark
abbrev pub word_is : List ℕ → Lexeme → Bool
word_is w x = is_word x && pointwise nat_eq x.text w

abbrev pub digit_is : List ℕ → Lexeme → Bool
digit_is n x = is_number_kind x.kind && pointwise nat_eq x.text n

abbrev pub mark_is : List ℕ → Lexeme → Bool
mark_is m x = is_mark_kind x.kind && pointwise nat_eq x.text m

-- ---- versions

-- what came with version 2 stands in this version
abbrev pub since_two : ℕ → Bool
since_two version = nat_le 2 version

-- what came with version 3 stands in this version
abbrev pub since_three : ℕ → Bool
since_three version = nat_le 3 version

-- ---- forms

-- any word, any string, this word, this mark
abbrev pub word : Form Lexeme
word = one is_word

abbrev pub string : Form Lexeme
string = one is_string

abbrev pub keyword : List ℕ → Form Lexeme
keyword w = one (word_is w)

abbrev pub mark : List ℕ → Form Lexeme
mark m = one (mark_is m)

-- word { "," word }
unfoldable pub words : Form Lexeme
words = word ▸ repeated (mark (codes ",") ▸ word)

-- "key" "(" words ")" ";"
unfoldable pub key : Form Lexeme
key = keyword (codes "key") ▸ mark (codes "(") ▸ words ▸ mark (codes ")") ▸ mark (codes ";")

-- "dep" "(" words ")" "->" "(" words ")" ";"
unfoldable pub dep : Form Lexeme
dep =
    keyword (codes "dep") ▸ mark (codes "(") ▸ words ▸ mark (codes ")") ▸ mark (codes "->")
    ▸ mark (codes "(") ▸ words ▸ mark (codes ")") ▸ mark (codes ";")

-- key, and if dependencies may stand, key | dep
unfoldable pub determination : Bool → Form Lexeme
determination false = key
determination true = key ∣ dep

-- [ "optional" ], if refs may be optional
unfoldable pub optional_word : Bool → Form Lexeme
optional_word false = nothing
optional_word true = optional (keyword (codes "optional"))

-- "ref" "(" words ")" "->" word "(" words ")" optional_word ";"
unfoldable pub ref : Bool → Form Lexeme
ref optionals =
    keyword (codes "ref") ▸ mark (codes "(") ▸ words ▸ mark (codes ")") ▸ mark (codes "->") ▸ word
    ▸ mark (codes "(") ▸ words ▸ mark (codes ")") ▸ optional_word optionals ▸ mark (codes ";")

-- "set" word "{" words ";"
unfoldable pub set_head : Form Lexeme
set_head = keyword (codes "set") ▸ word ▸ mark (codes "{") ▸ words ▸ mark (codes ";")

-- set_head { clause } "}"
unfoldable pub set_of : Form Lexeme → Form Lexeme
set_of clause = set_head ▸ repeated clause ▸ mark (codes "}")

-- determination | ref, in a set that has no inner sets
unfoldable pub last_clause : ℕ → Form Lexeme
last_clause version = determination (since_three version) ∣ ref (since_two version)

-- determination | ref | set
unfoldable pub clause_with : ℕ → Form Lexeme → Form Lexeme
clause_with version inner = determination (since_three version) ∣ ref (since_two version) ∣ inner

-- a clause of a set with so many levels of inner sets, at most, in a text of this version
unfoldable pub clause : ℕ → ℕ → Form Lexeme
clause version zero = last_clause version
clause version (suc levels) = clause_with version (set_of (clause version levels))

-- a set with so many levels of inner sets, at most
abbrev pub set : ℕ → ℕ → Form Lexeme
set version levels = set_of (clause version levels)

-- word "." word
unfoldable pub place : Form Lexeme
place = word ▸ mark (codes ".") ▸ word

-- place { "," place }
unfoldable pub places : Form Lexeme
places = place ▸ repeated (mark (codes ",") ▸ place)

-- a column after its set, or the arguments of a conversion after its name:
-- "." word | "(" places ")"
unfoldable pub behind_word : Form Lexeme
behind_word = (mark (codes ".") ▸ word) ∣ (mark (codes "(") ▸ places ▸ mark (codes ")"))

-- string | place | word "(" places ")"
unfoldable pub line_source : Form Lexeme
line_source = string ∣ (word ▸ behind_word)

-- "line" source "->" place ";"
unfoldable pub line : Form Lexeme
line = keyword (codes "line") ▸ line_source ▸ mark (codes "->") ▸ place ▸ mark (codes ";")

-- a word, and if strings may stand, a word or a string
unfoldable pub rule_cell : Bool → Form Lexeme
rule_cell false = word
rule_cell true = word ∣ string

-- cell { "," cell }
unfoldable pub cells : Bool → Form Lexeme
cells strings = rule_cell strings ▸ repeated (mark (codes ",") ▸ rule_cell strings)

-- word "(" cells ")"
unfoldable pub atom : Bool → Form Lexeme
atom strings = word ▸ mark (codes "(") ▸ cells strings ▸ mark (codes ")")

-- atom { "," atom }
unfoldable pub atoms : Bool → Form Lexeme
atoms strings = atom strings ▸ repeated (mark (codes ",") ▸ atom strings)

-- word "=" word "(" words ")"
unfoldable pub derived : Form Lexeme
derived = word ▸ mark (codes "=") ▸ word ▸ mark (codes "(") ▸ cells false ▸ mark (codes ")")

-- "where" derived { "," derived }
unfoldable pub where_part : Form Lexeme
where_part = keyword (codes "where") ▸ derived ▸ repeated (mark (codes ",") ▸ derived)

-- "rule" atoms [ where_part ] "->" atoms ";", with strings in the second atoms alone
unfoldable pub rule : Form Lexeme
rule = keyword (codes "rule") ▸ atoms false ▸ optional where_part ▸ mark (codes "->") ▸ atoms true ▸ mark (codes ";")

-- "only" place word ";"
unfoldable pub only : Form Lexeme
only = keyword (codes "only") ▸ place ▸ word ▸ mark (codes ";")

-- line | rule, and if conditions may stand, line | rule | only
unfoldable pub item : Bool → Form Lexeme
item false = line ∣ rule
item true = line ∣ rule ∣ only

-- "source" or "target", and "{" { set } "}"
unfoldable pub side : ℕ → List ℕ → ℕ → Form Lexeme
side version name levels = keyword name ▸ mark (codes "{") ▸ repeated (set version levels) ▸ mark (codes "}")

-- ";" source-side target-side { item }
unfoldable pub body : ℕ → ℕ → Form Lexeme
body version levels =
    mark (codes ";") ▸ side version (codes "source") levels ▸ side version (codes "target") levels
    ▸ repeated (item (since_two version))

-- the digit of a version, with a body of that version
abbrev pub version_body : List ℕ → ℕ → ℕ → Form Lexeme
version_body number version levels = one (digit_is number) ▸ body version levels

-- "mapping", and "1", "2" or "3" with a body of that version, if sets have so many levels of inner sets, at most
unfoldable pub mapping : ℕ → Form Lexeme
mapping levels =
    keyword (codes "mapping") ▸ (version_body (codes "1") 1 levels ∣ version_body (codes "2") 2 levels
    ∣ version_body (codes "3") 3 levels)

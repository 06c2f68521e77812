-- What a token of a script is, which tokens a text has, and what its first fault is.
use Rattle.std.specs.Prelude.{◌≡◌, ◌≢◌, ℕ, ◌+◌, ◌≤◌, ◌⊎◌, ◌||◌, ◌==◌, Bool, false, IsTrue, IsUtf8, List, [], ◌∷◌, ◌++◌}
use Rattle.std.specs.Prelude.{Option, Some, None, length, map, decimal, slice_range}
use Rattle.std.specs.Char.{encode_utf8, IsScalar}
use Rattle.dx_base.specs.Members.{Each}
use Rattle.dx_tokens.specs.declared.faults.TextKind.{TextKind}
use Rattle.dx_tokens.specs.declared.faults.TextKind.TheVariants.{Character, Ended}
use Rattle.dx_tokens.specs.Tokens.{is_blank, is_word_byte}
use Rattle.dx_tokens.specs.Lexing.{IsWord}
use Rattle.dx_script_tokens.specs.declared.pieces.Shape.{Shape}
use Rattle.dx_script_tokens.specs.declared.pieces.Shape.TheVariants.{Word, Number, Name, Text, Mark}
use Rattle.dx_script_tokens.specs.declared.scanner.ScriptToken.{ScriptToken}
use Rattle.dx_script_tokens.specs.declared.scanner.ScriptStop.{ScriptStop}
use Rattle.dx_script_tokens.specs.Numbers.{greatest_number}
use Rattle.dx_script_tokens.specs.Kinds.{is_script_mark}
use Rattle.dx_script_tokens.specs.Quoted.{doubled, single_quoted}
use Rattle.dx_script_tokens.specs.Scan.{begun_at, script_scan_of, token_of}

-- ---- tokens

-- a number up to the greatest, in decimal
abbrev pub IsScriptNumber : List ℕ → Type 0
IsScriptNumber w = (n : ℕ) × (n ≤ greatest_number) × (w ≡ decimal n)

-- letters, digits and _, of which there is one at least; the first may be #
abbrev pub IsNameText : List ℕ → Type 0
IsNameText [] = ⊥
IsNameText (c ∷ cs) = IsTrue (c == 35 || is_word_byte c) × Each cs (λ b. IsTrue (is_word_byte b))

-- a name in double quotes
abbrev pub IsQuotedName : List ℕ → Type 0
IsQuotedName w = (name : List ℕ) × IsNameText name × (w ≡ 34 ∷ (name ++ 34 ∷ []))

-- a UTF-8 text in single quotes, with each single quote of it doubled
abbrev pub IsText : List ℕ → Type 0
IsText w = (text : List ℕ) × IsUtf8 text × (w ≡ single_quoted text)

-- one of ( ) , ; . = *
abbrev pub IsScriptMark : List ℕ → Type 0
IsScriptMark w = (b : ℕ) × IsTrue (is_script_mark b) × (w ≡ b ∷ [])

-- a token of a shape
abbrev pub IsScriptTokenText : Shape → List ℕ → Type 0
IsScriptTokenText Word w = IsWord w
IsScriptTokenText Number w = IsScriptNumber w
IsScriptTokenText Name w = IsQuotedName w
IsScriptTokenText Text w = IsText w
IsScriptTokenText Mark w = IsScriptMark w

-- no front of what is left is a longer token
abbrev pub IsLongestScriptToken : List ℕ → List ℕ → Type 0
IsLongestScriptToken w left =
    (shape : Shape) (longer rest : List ℕ) → IsScriptTokenText shape longer → left ≡ longer ++ rest
    → length longer ≤ length w

-- after a text no single quote stands, since two of them are one that is doubled
abbrev pub EndsText : Shape → List ℕ → Type 0
EndsText Text (b ∷ rest) = b ≢ 39
EndsText _ _ = Unit {0}

-- the bytes of a token, and its shape
pub record Span : Type 0 where
  pub start : ℕ
  pub end : ℕ
  pub shape : Shape

-- From a place on, blanks and tokens stand one after the other, each token as long as it can be,
-- up to what is after them.
pub data LexesScript : ℕ → List ℕ → List Span → List ℕ → Type 0 where
  nothing : {place : ℕ} {behind : List ℕ} → LexesScript place behind [] behind
  blank : {place : ℕ} {left rest behind : List ℕ} {tokens : List Span} (b : ℕ) → IsTrue (is_blank b) → left ≡ b ∷ rest
      → LexesScript (place + 1) rest tokens behind → LexesScript place left tokens behind
  token : {place : ℕ} {left rest behind : List ℕ} {tokens : List Span} (shape : Shape) (w : List ℕ)
      → IsScriptTokenText shape w
      → IsLongestScriptToken w left → EndsText shape rest → left ≡ w ++ rest
      → LexesScript (place + length w) rest tokens behind
      → LexesScript place left (record { start = place; end = place + length w; shape = shape } ∷ tokens) behind

-- the tokens of a text
abbrev pub AreScriptTokens : List ℕ → List Span → Type 0
AreScriptTokens text tokens = LexesScript 0 text tokens []

-- ---- faults

-- something is left, and no blank, token or quotation mark begins there
pub record BeginsNoScriptToken (left : List ℕ) : Type 0 where
  pub some_left : left ≢ []
  pub no_blank : (b : ℕ) (rest : List ℕ) → IsTrue (is_blank b) → left ≢ b ∷ rest
  pub no_token : (shape : Shape) (w rest : List ℕ) → IsScriptTokenText shape w → left ≢ w ++ rest
  pub no_name : (rest : List ℕ) → left ≢ 34 ∷ rest
  pub no_text : (rest : List ℕ) → left ≢ 39 ∷ rest

-- a name up to some character
abbrev pub IsNameFront : List ℕ → Type 0
IsNameFront [] = Unit {0}
IsNameFront (c ∷ cs) = IsNameText (c ∷ cs)

-- the byte may stand after these characters of a name: as a character, or as the quotation mark that ends it
abbrev pub can_follow : List ℕ → ℕ → Bool
can_follow [] b = b == 35 || is_word_byte b
can_follow (c ∷ cs) b = b == 34 || is_word_byte b

-- no UTF-8 character begins there, nor one that the end of the text cuts
pub record BeginsNoCharacter (left : List ℕ) : Type 0 where
  pub no_character : (c : ℕ) (rest : List ℕ) → IsScalar c → left ≢ encode_utf8 c ++ rest
  pub not_cut : (c : ℕ) (more : List ℕ) → IsScalar c → left ++ more ≢ encode_utf8 c

-- What is left begins with a fault of a kind, so many bytes after its beginning.
pub data BeginsScriptFault (left : List ℕ) : ℕ → TextKind → Type 0 where
  no_token : BeginsNoScriptToken left → BeginsScriptFault left 0 Character
  bad_name : (front : List ℕ) (b : ℕ) (rest : List ℕ) → IsNameFront front → left ≡ 34 ∷ (front ++ b ∷ rest)
      → can_follow front b ≡ false → BeginsScriptFault left (1 + length front) Character
  cut_name : (front : List ℕ) → IsNameFront front → left ≡ 34 ∷ front → BeginsScriptFault left (length left) Ended
  bad_text : (text rest : List ℕ) → IsUtf8 text → left ≡ 39 ∷ (doubled text ++ rest) → BeginsNoCharacter rest
      → BeginsScriptFault left (1 + length (doubled text)) Character
  cut_text : (text rest more : List ℕ) (c : ℕ) → IsUtf8 text → left ≡ 39 ∷ (doubled text ++ rest) → IsScalar c
      → rest ++ more ≡ encode_utf8 c → more ≢ [] → BeginsScriptFault left (length left) Ended

-- the first fault of the tokens of a text: so many bytes after its tokens
pub record IsFirstScriptFault (text : List ℕ) (place : ℕ) (kind : TextKind) : Type 0 where
  pub tokens : List Span
  pub behind : List ℕ
  pub lexes : LexesScript 0 text tokens behind
  pub offset : ℕ
  pub faulty : BeginsScriptFault behind offset kind
  pub at_place : place + length behind ≡ length text + offset

-- ---- laws

-- what the token of a text says
abbrev pub token_said : List ℕ → Span → ScriptToken
token_said text s = token_of s.start s.shape (slice_range text s.start s.end)

-- the name or text that is begun if what is left is faulty
abbrev pub script_begun_of : ℕ → List ℕ → Option ScriptToken
script_begun_of place [] = None
script_begun_of place (b ∷ rest) = begun_at place b

-- a text has tokens, or a first fault
abbrev pub IsScriptTokensOrFault : List ℕ → Type 0
IsScriptTokensOrFault text =
    ((tokens : List Span) × AreScriptTokens text tokens)
    ⊎ ((place : ℕ) × (kind : TextKind) × IsFirstScriptFault text place kind)

-- the scan of a text that has tokens gives them and no stop
abbrev pub ScriptTokensAreScanned : List ℕ → Type 0
ScriptTokensAreScanned text =
    (tokens : List Span) → AreScriptTokens text tokens
    → script_scan_of text ≡ record { tokens = map (token_said text) tokens; stop = None }

-- the scan of a text with a fault after some tokens gives these tokens,
-- and stops at that fault with what is begun there
abbrev pub ScriptFaultIsScanned : List ℕ → Type 0
ScriptFaultIsScanned text =
    (tokens : List Span) (behind : List ℕ) (place offset : ℕ) (kind : TextKind)
    → LexesScript 0 text tokens behind → place + length behind ≡ length text
    → BeginsScriptFault behind offset kind
    → script_scan_of text ≡ record {
      tokens = map (token_said text) tokens;
      stop = Some (record { place = place + offset; kind = kind; begun = script_begun_of place behind });
    }

-- the scan of a text with a first fault stops there
abbrev pub FirstScriptFaultIsStop : List ℕ → Type 0
FirstScriptFaultIsStop text =
    (place : ℕ) (kind : TextKind) → IsFirstScriptFault text place kind
    → (s : ScriptStop) × ((script_scan_of text).stop ≡ Some s) × (s.place ≡ place) × (s.kind ≡ kind)

-- The tokens of a script's text, up to the first fault.
use Rattle.std.specs.Prelude.{ℕ, zero, suc, ◌+◌, ◌-◌, ◌==◌, if◌then◌else◌, List, []}
use Rattle.std.specs.Prelude.{◌∷◌, ◌++◌, length, take, Option, Some, None, IsUtf8}
use Rattle.dx_tokens.specs.declared.faults.TextKind.{TextKind}
use Rattle.dx_tokens.specs.declared.faults.TextKind.TheVariants.{Character, Ended}
use Rattle.dx_script_tokens.specs.declared.kinds.ScriptKind.{ScriptKind}
use Rattle.dx_script_tokens.specs.declared.kinds.ScriptKind.TheVariants as kinds
use Rattle.dx_script_tokens.specs.declared.pieces.Shape.{Shape}
use Rattle.dx_script_tokens.specs.declared.pieces.Shape.TheVariants.{Word, Number, Name, Text, Mark}
use Rattle.dx_script_tokens.specs.declared.pieces.Piece.{Piece}
use Rattle.dx_script_tokens.specs.declared.pieces.Piece.TheVariants as pieces
use Rattle.dx_script_tokens.specs.declared.scanner.ScriptToken.{ScriptToken}
use Rattle.dx_script_tokens.specs.declared.scanner.ScriptStop.{ScriptStop}
use Rattle.dx_script_tokens.specs.declared.scanner.ScriptScan.{ScriptScan}
use Rattle.dx_script_tokens.specs.Numbers.{numeral_of, or_zero}
use Rattle.dx_script_tokens.specs.Kinds.{word_says, mark_kind}
use Rattle.dx_script_tokens.specs.Pieces.{script_piece_at}

-- the bytes up to the last
abbrev pub but_last : List ℕ → List ℕ
but_last [] = []
but_last (b ∷ []) = []
but_last (b ∷ c ∷ rest) = b ∷ but_last (c ∷ rest)

-- what stands between the first byte and the last
abbrev pub between_quotes : List ℕ → List ℕ
between_quotes [] = []
between_quotes (b ∷ rest) = but_last rest

-- the characters of a text, with each doubled quote made one
abbrev pub undoubled : List ℕ → List ℕ
undoubled [] = []
undoubled (b ∷ []) = b ∷ []
undoubled (b ∷ c ∷ rest) = if b == 39 then 39 ∷ undoubled rest else b ∷ undoubled (c ∷ rest)

-- which mark a token is
abbrev pub mark_of : List ℕ → ScriptKind
mark_of [] = kinds.Star
mark_of (b ∷ rest) = mark_kind b

-- a token without a text
abbrev pub plain_token : ℕ → ScriptKind → ℕ → ScriptToken
plain_token place kind number = record { place = place; kind = kind; number = number; text = [] }

-- the name that bytes at a place are, the text
abbrev pub name_token : ℕ → List ℕ → ScriptToken
name_token place w = record { place = place; kind = kinds.Name; number = 0; text = between_quotes w }

abbrev pub text_token : ℕ → List ℕ → ScriptToken
text_token place w = record { place = place; kind = kinds.Text; number = 0; text = undoubled (between_quotes w) }

-- the token that bytes at a place are
abbrev pub token_of : ℕ → Shape → List ℕ → ScriptToken
token_of place Word w = plain_token place (word_says w).0 (word_says w).1
token_of place Number w = plain_token place kinds.Number (or_zero (numeral_of w))
token_of place Name w = name_token place w
token_of place Text w = text_token place w
token_of place Mark w = plain_token place (mark_of w) 0

-- what the token says is UTF-8
abbrev pub SaysUtf8 : Shape → List ℕ → Type 0
SaysUtf8 Word w = Unit {0}
SaysUtf8 Number w = Unit {0}
SaysUtf8 Name w = IsUtf8 (between_quotes w)
SaysUtf8 Text w = IsUtf8 (undoubled (between_quotes w))
SaysUtf8 Mark w = Unit {0}

-- a token that is faulty or cut is a name if it begins with a double quote, a text if it begins with a single one
abbrev pub begun_at : ℕ → ℕ → Option ScriptToken
begun_at place b =
    if b == 34 then Some (plain_token place kinds.Name 0)
    else (if b == 39 then Some (plain_token place kinds.Text 0) else None)

-- the fault of a kind at a place, in what begins with byte b at the first place
abbrev pub stop_at : ℕ → ℕ → TextKind → ℕ → ScriptStop
stop_at begin place kind b = record { place = place; kind = kind; begun = begun_at begin b }

-- no token, and this fault
abbrev pub script_stopped : ScriptStop → ScriptScan
script_stopped s = record { tokens = []; stop = Some s }

-- what was scanned before, and what is scanned after it
abbrev pub with_tokens : List ScriptToken → ScriptScan → ScriptScan
with_tokens front s = record { tokens = front ++ s.tokens; stop = s.stop }

-- a token, and what is scanned after it
abbrev pub with_token : ScriptToken → ScriptScan → ScriptScan
with_token x s = record { tokens = x ∷ s.tokens; stop = s.stop }

-- what stands next at a place, if the first of the bytes is b
abbrev pub script_scan_step : Piece → ℕ → ℕ → List ℕ → (ℕ → ScriptScan) → ScriptScan
script_scan_step pieces.Blank place b rest next = next 0
script_scan_step (pieces.Token shape len) place b rest next =
    with_token (token_of place shape (take len (b ∷ rest))) (next (len - 1))
script_scan_step (pieces.Fault offset) place b rest next = script_stopped (stop_at place (place + offset) Character b)
script_scan_step pieces.Cut place b rest next = script_stopped (stop_at place (place + 1 + length rest) Ended b)

-- the bytes from a place on, if the first number is how many bytes of the piece before are left
unfoldable pub script_scan_from : ℕ → ℕ → List ℕ → ScriptScan
script_scan_from left place [] = record { tokens = []; stop = None }
script_scan_from (suc left) place (b ∷ rest) = script_scan_from left (place + 1) rest
script_scan_from zero place (b ∷ rest) =
    script_scan_step (script_piece_at b rest) place b rest (λ left. script_scan_from left (place + 1) rest)

-- the tokens of a text up to its first fault, and that fault
abbrev pub script_scan_of : List ℕ → ScriptScan
script_scan_of text = script_scan_from 0 0 text

-- What stands next in a text: a blank, a token, or a fault.
use Rattle.std.specs.Prelude.{ℕ, zero, suc, ◌+◌, ◌-◌, ◌≤◌, ◌<◌, ◌||◌, ◌==◌, nat_lt, if◌then◌else◌, List, [], ◌∷◌, drop}
use Rattle.dx_tokens.specs.Tokens.{is_digit, is_word_start, is_word_byte, is_blank, run, wide_at}
use Rattle.dx_tokens.specs.declared.pieces.Item.{Item}
use Rattle.dx_tokens.specs.declared.pieces.Item.TheVariants as items
use Rattle.dx_script_tokens.specs.declared.pieces.Piece.{Piece}
use Rattle.dx_script_tokens.specs.declared.pieces.Piece.TheVariants as pieces
use Rattle.dx_script_tokens.specs.declared.pieces.Shape.TheVariants.{Word, Number, Name, Text, Mark}
use Rattle.dx_script_tokens.specs.Numbers.{number_at}
use Rattle.dx_script_tokens.specs.Kinds.{is_script_mark}

-- ---- names in double quotes

-- what stands after the characters of a name, of which n bytes are read
abbrev pub name_end : ℕ → List ℕ → Piece
name_end n [] = pieces.Cut
name_end n (c ∷ rest) = if c == 34 then pieces.Token Name (n + 1) else pieces.Fault n

-- a name after its first quotation mark: one character at least, and the first may be #
abbrev pub name_at : List ℕ → Piece
name_at [] = pieces.Cut
name_at (c ∷ rest) =
    if c == 35 || is_word_byte c
    then name_end (2 + run is_word_byte rest) (drop (run is_word_byte rest) rest) else pieces.Fault 1

-- ---- texts in single quotes

-- after a single quote inside a text: it is doubled, or it ends the text
abbrev pub quote_at : List ℕ → Item
quote_at [] = items.Quote
quote_at (c ∷ rest) = if c == 39 then items.Whole 2 else items.Quote

-- what stands next inside a text
unfoldable pub text_item : ℕ → List ℕ → Item
text_item b rest = if b == 39 then quote_at rest else (if nat_lt b 128 then items.Whole 1 else wide_at b rest)

abbrev pub text_step : Item → ℕ → (ℕ → Piece) → Piece
text_step items.Quote n next = pieces.Token Text (n + 1)
text_step (items.Whole len) n next = next (len - 1)
text_step (items.Bad offset) n next = pieces.Fault (n + offset)
text_step items.Cut n next = pieces.Cut

-- a text from its byte n on, if the first number is how many bytes of the item before are left
unfoldable pub text_from : ℕ → ℕ → List ℕ → Piece
text_from left n [] = pieces.Cut
text_from (suc left) n (b ∷ rest) = text_from left (n + 1) rest
text_from zero n (b ∷ rest) = text_step (text_item b rest) n (λ left. text_from left (n + 1) rest)

-- ---- all pieces

-- what stands next
unfoldable pub script_piece_at : ℕ → List ℕ → Piece
script_piece_at b rest =
    if is_blank b then pieces.Blank
    else (if is_word_start b then pieces.Token Word (1 + run is_word_byte rest)
    else (if is_digit b then pieces.Token Number (number_at b rest).0
    else (if is_script_mark b then pieces.Token Mark 1
    else (if b == 34 then name_at rest
    else (if b == 39 then text_from 0 1 rest
    else pieces.Fault 0)))))

-- a piece of a text lies in so many bytes
abbrev pub ScriptPieceWithin : ℕ → Piece → Type 0
ScriptPieceWithin n pieces.Blank = 1 ≤ n
ScriptPieceWithin n (pieces.Token shape len) = (1 ≤ len) × (len ≤ n)
ScriptPieceWithin n (pieces.Fault offset) = offset < n
ScriptPieceWithin n pieces.Cut = Unit {0}

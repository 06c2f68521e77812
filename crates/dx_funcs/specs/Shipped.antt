-- The conversions and the row tests that come with the program, and what they give.
use Rattle.std.specs.Prelude.{ℕ, Bool, true, false, ◌&&◌, List, [], ◌∷◌, ◌++◌}
use Rattle.std.specs.Prelude.{◌==◌, codes, filter, if◌then◌else◌, reverse}
use Rattle.std.specs.List.{list_all}
use Rattle.std.specs.Char.{is_ascii_digit}
use Rattle.dx_base.specs.Texts.{Text}
use Rattle.dx_funcs.specs.declared.conversion.Conversion.{Conversion}
use Rattle.dx_funcs.specs.declared.row_test.RowTest.{RowTest}

-- the byte of a space
abbrev pub space : ℕ
space = 32

-- the text without the spaces at its front
abbrev pub without_spaces_in_front : Text → Text
without_spaces_in_front [] = []
without_spaces_in_front (b ∷ bs) = if b == space then without_spaces_in_front bs else b ∷ bs

-- the text without the spaces at its end
abbrev pub without_spaces_at_the_end : Text → Text
without_spaces_at_the_end text = reverse (without_spaces_in_front (reverse text))

-- the text without the spaces at its front and its end
abbrev pub trimmed : Text → Text
trimmed text = without_spaces_at_the_end (without_spaces_in_front text)

-- the bytes `0` to `9` of the text, in order
abbrev pub digits_of : Text → Text
digits_of text = filter is_ascii_digit text

-- the first text, one space, the second
abbrev pub paired : Text → Text → Text
paired first second = first ++ space ∷ second

-- what the conversions give: 0 trims, 1 keeps the digits, 2 pairs; the empty text for all else
abbrev pub shipped_apply : ℕ → List Text → Text
shipped_apply code [] = []
shipped_apply code (text ∷ []) = if code == 0 then trimmed text else if code == 1 then digits_of text else []
shipped_apply code (first ∷ second ∷ []) = if code == 2 then paired first second else []
shipped_apply code (first ∷ second ∷ third ∷ rest) = []

-- the conversions that come with the program, in order
abbrev pub shipped_conversions : List Conversion
shipped_conversions =
    record { name = codes "trim"; code = 0; arity = 1 }
    ∷ record { name = codes "digits"; code = 1; arity = 1 }
    ∷ record { name = codes "pair"; code = 2; arity = 2 }
    ∷ []

-- ---- row tests

-- the text isn't empty
abbrev pub is_filled : Text → Bool
is_filled [] = false
is_filled (b ∷ bs) = true

-- the text isn't empty, and each of its bytes is `0` to `9`
abbrev pub is_numeric : Text → Bool
is_numeric text = is_filled text && list_all is_ascii_digit text

-- what passes: 0 asks for a text that isn't empty, 1 for digits; nothing passes any other code
abbrev pub shipped_passes : ℕ → Text → Bool
shipped_passes code text = if code == 0 then is_filled text else if code == 1 then is_numeric text else false

-- the row tests that come with the program, in order
abbrev pub shipped_row_tests : List RowTest
shipped_row_tests = record { name = codes "filled"; code = 0 } ∷ record { name = codes "numeric"; code = 1 } ∷ []

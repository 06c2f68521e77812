-- What is shown of some texts.
use Rattle.std.proofs.Common.{◌≡◌, [], ◌∷◌, ◌++◌, chars, codes, refl}
use Rattle.clio_terminal.specs.Shown.{shown}

-- letters, marks of ASCII, letters of other scripts, and a quotation mark stay
shown-letters : shown (codes "t.csv: \"a\" 1 ~" ++ 0xE8 ∷ 0x5D0 ∷ 0x4E2D ∷ 0x1F600 ∷ []) ≡ codes "t.csv: \"a\" 1 ~" ++ 0xE8 ∷ 0x5D0 ∷ 0x4E2D ∷ 0x1F600 ∷ []
shown-letters = refl

-- a line feed forges no line, and an escape commands nothing
shown-line_feed : shown (codes "a" ++ 10 ∷ codes "b") ≡ codes "a\\u{a}b"
shown-line_feed = refl

shown-escape : shown (27 ∷ codes "]0;OWNED" ++ 7 ∷ []) ≡ codes "\\u{1b}]0;OWNED\\u{7}"
shown-escape = refl

-- the ends of the ranges, and what is beside them
shown-controls : shown (0 ∷ 31 ∷ 32 ∷ 126 ∷ 127 ∷ 0x80 ∷ 0x9F ∷ 0xA0 ∷ []) ≡ codes "\\u{0}\\u{1f} ~\\u{7f}\\u{80}\\u{9f}" ++ 0xA0 ∷ []
shown-controls = refl

shown-marks : shown (0x61B ∷ 0x61C ∷ 0x61D ∷ 0x200D ∷ 0x200E ∷ 0x200F ∷ 0x2010 ∷ []) ≡ 0x61B ∷ codes "\\u{61c}" ++ 0x61D ∷ 0x200D ∷ codes "\\u{200e}\\u{200f}" ++ 0x2010 ∷ []
shown-marks = refl

shown-embeddings : shown (0x2029 ∷ 0x202A ∷ 0x202E ∷ 0x202F ∷ []) ≡ 0x2029 ∷ codes "\\u{202a}\\u{202e}" ++ 0x202F ∷ []
shown-embeddings = refl

shown-isolates : shown (0x2065 ∷ 0x2066 ∷ 0x2069 ∷ 0x206A ∷ []) ≡ 0x2065 ∷ codes "\\u{2066}\\u{2069}" ++ 0x206A ∷ []
shown-isolates = refl

-- what looks like an escape stays as it is
shown-backslash : shown (codes "\\u{a}") ≡ codes "\\u{a}"
shown-backslash = refl

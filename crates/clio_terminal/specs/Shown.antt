-- A text as a terminal is given it.
use Rattle.std.specs.Prelude.{ℕ, Bool, ◌||◌, ◌==◌, List, [], ◌∷◌, flat_map, if◌then◌else◌}
use Rattle.std.specs.Int.{is_in_range}
use Rattle.std.specs.Char.{is_control}
pub use Rattle.std.specs.Char.Escape.{escape_unicode}

-- the marks that turn the direction of writing: three marks, and the embeddings, overrides and isolates with their ends
abbrev pub turns_direction : ℕ → Bool
turns_direction c =
    (c == 0x61C) || (is_in_range 0x200E 0x200F c || (is_in_range 0x202A 0x202E c || is_in_range 0x2066 0x2069 c))

-- a character that can do more than to be seen: a control character (below 32, and from 127 to 159) or such a mark
abbrev pub is_harmful : ℕ → Bool
is_harmful c = is_control c || turns_direction c

-- what a character is shown as: itself if it is harmless, and else `\u{..}` with its code
abbrev pub shown_character : ℕ → List ℕ
shown_character c = if is_harmful c then escape_unicode c else c ∷ []

-- what the characters of a text are shown as
abbrev pub shown : List ℕ → List ℕ
shown cs = flat_map shown_character cs

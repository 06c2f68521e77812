-- A row test of one's own.
use Rattle.std.specs.Prelude.{◌==◌, ℕ, Bool, false, List, [], ◌∷◌, if◌then◌else◌}

-- what passes: 7 asks for a text that begins with `a`; nothing passes another code
abbrev pub begins_with_a : ℕ → List ℕ → Bool
begins_with_a code [] = false
begins_with_a code (b ∷ bs) = if code == 7 then b == 97 else false

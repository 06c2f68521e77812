-- Texts that are written in single quotes.
use Rattle.std.specs.Prelude.{ℕ, ◌==◌, if◌then◌else◌, List, [], ◌∷◌, ◌++◌}

-- the bytes of a text, with each single quote doubled
abbrev pub doubled : List ℕ → List ℕ
doubled [] = []
doubled (b ∷ bs) = if b == 39 then 39 ∷ 39 ∷ doubled bs else b ∷ doubled bs

-- a text in single quotes
abbrev pub single_quoted : List ℕ → List ℕ
single_quoted text = 39 ∷ (doubled text ++ 39 ∷ [])

-- What is shown can do nothing but be seen, and a text that could do nothing else is shown as it is.
use Rattle.std.specs.Prelude.{◌≡◌, ℕ, Bool, false, List, All}
use Rattle.clio_terminal.specs.Shown.{is_harmful, shown}

-- each character is harmless
abbrev pub AllHarmless : List ℕ → Type 0
AllHarmless cs = All (λ c. is_harmful c ≡ false) cs

abbrev pub ShownIsHarmless : Type 0
ShownIsHarmless = (cs : List ℕ) → AllHarmless (shown cs)

abbrev pub HarmlessStays : Type 0
HarmlessStays = (cs : List ℕ) → AllHarmless cs → shown cs ≡ cs

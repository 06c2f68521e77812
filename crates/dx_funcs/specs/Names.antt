-- Conversions by their names and by their codes.
use Rattle.std.specs.Prelude.{◌≡◌, ℕ, List, [], ◌∷◌, Option, Some, None, ◌==◌, cond, if◌then◌else◌, nat_eq, MatchOption}
use Rattle.std.specs.Cmp.Lexicographic.{pointwise}
use Rattle.dx_base.specs.Texts.{Text}
use Rattle.dx_funcs.specs.declared.conversion.Conversion.{Conversion}

-- the first conversion of this name
abbrev pub first_named : List Conversion → Text → Option Conversion
first_named [] name = None
first_named (c ∷ cs) name = cond (pointwise nat_eq c.name name) (Some c) (first_named cs name)

-- the name of the first conversion with this code; the empty text if there is none
abbrev pub conversion_name : List Conversion → ℕ → Text
conversion_name [] code = []
conversion_name (c ∷ cs) code = if c.code == code then c.name else conversion_name cs code

-- what a conversion that was found makes of texts; the empty text if none was found
abbrev pub call_found : (ℕ → List Text → Text) → Option Conversion → List Text → Text
call_found apply None args = []
call_found apply (Some c) args = apply c.code args

-- what the first conversion of this name makes of texts
abbrev pub call_named : (ℕ → List Text → Text) → List Conversion → Text → List Text → Text
call_named apply list name args = call_found apply (first_named list name) args

-- a conversion of this name is listed, and the first of them takes so many texts
abbrev pub TakesTexts : List Conversion → Text → ℕ → Type 0
TakesTexts list name count = MatchOption (first_named list name) ⊥ (λ c. c.arity ≡ count)

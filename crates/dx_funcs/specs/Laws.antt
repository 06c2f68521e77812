-- What holds of each offer: its names and codes tell its conversions.
use Rattle.std.specs.Prelude.{◌≡◌, ℕ, List, Some, map}
use Rattle.dx_base.specs.Members.{◌∈◌}
use Rattle.dx_base.specs.Texts.{Text}
use Rattle.dx_funcs.specs.declared.conversion.Conversion.{Conversion}
use Rattle.dx_funcs.specs.Names.{call_named, conversion_name, first_named}
use Rattle.dx_funcs.specs.Offers.{IsOffer}

-- a name or a code tells which listed conversion it is
pub record NameAndCodeTell (list : List Conversion) (c : Conversion) : Type 0 where
  pub found : first_named list c.name ≡ Some c
  pub name : conversion_name list c.code ≡ c.name
  pub one_name : (d : Conversion) → d ∈ list → d.name ≡ c.name → d ≡ c
  pub one_code : (d : Conversion) → d ∈ list → d.code ≡ c.code → d ≡ c

-- in an offer each conversion is told by its name and by its code
abbrev pub EachIsTold : Type 0
EachIsTold = (list : List Conversion) (c : Conversion) → IsOffer list → c ∈ list → NameAndCodeTell list c

-- a call by the name of a listed code is a call by the code
abbrev pub CallsByNameAreByCode : Type 0
CallsByNameAreByCode =
    (apply : ℕ → List Text → Text) (list : List Conversion) (code : ℕ) (args : List Text)
    → IsOffer list → code ∈ map (λ (c : Conversion). c.code) list
    → call_named apply list (conversion_name list code) args ≡ apply code args

-- Lists of conversions.
use Rattle.std.specs.Prelude.{◌≡◌, ◌≤◌, ℕ, List, [], ◌∷◌, map}
use Rattle.dx_base.specs.Members.{◌∈◌, Distinct, Each}
use Rattle.dx_funcs.specs.declared.conversion.Conversion.{Conversion}
use denote.Struct.Props as logic

-- no two have one name or one code, and each takes one to four texts
pub record IsOffer (list : List Conversion) : Type 0 where
  pub names : Distinct (map (λ c. c.name) list)
  pub codes : Distinct (map (λ c. c.code) list)
  pub arities : Each list (λ c. (1 ≤ c.arity) × (c.arity ≤ 4))

-- a conversion of this code is listed, and takes so many texts
abbrev pub IsListed : List Conversion → ℕ → ℕ → Type 0
IsListed list code arity = (c : Conversion) × (c ∈ list) × (c.code ≡ code) × (c.arity ≡ arity)

-- ---- each of these facts has at most one proof, as a fact that a struct keeps must

pub Distinct-prop : {X : Type 0} (xs : List X) → IsProp (Distinct xs)
Distinct-prop [] = Prim.hlevel logic.props
Distinct-prop (x ∷ xs) = Prim.hlevel (logic.props, Distinct-prop xs)

pub IsOffer-prop : (list : List Conversion) → IsProp (IsOffer list)
IsOffer-prop list =
    Prim.hlevel (logic.props, Distinct-prop (map (λ c. c.name) list), Distinct-prop (map (λ c. c.code) list))

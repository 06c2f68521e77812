-- The used cell maps between small conclusions, and which rule is before which.
use Rattle.std.proofs.Common.{◌≡◌, true, false, List, [], ◌∷◌, codes, refl}
use Rattle.dx_model.specs.declared.rules.Cell.{Cell}
use Rattle.dx_model.specs.declared.rules.Cell.TheVariants.{Var, Ex, Lit}
use Rattle.dx_model.specs.declared.rules.Atom.{Atom}
use Rattle.dx_model.specs.declared.rules.Rule.{Rule}
use Rattle.dx_model.specs.declared.covers.CellMap.{CellMap}
use Rattle.dx_model.specs.Covers.{before, used_maps}
use Rattle.dx_cover.specs.Covering.{covers_of}

abbrev atom : List Cell → Atom
atom cells = record { table = 0; cells = cells }

-- a rule with this conclusion
abbrev saying : List Atom → Rule
saying conclusion = record { premise = atom (Var 0 ∷ Var 1 ∷ []) ∷ []; derived = []; conclusion = conclusion }

abbrev map_to : List Cell → List Cell → CellMap
map_to exported existential = record { exported = exported; existential = existential }

-- p(x0, "main"), and p(x0, y0)
abbrev at_main : Rule
at_main = saying (atom (Var 0 ∷ Lit (codes "main") ∷ []) ∷ [])

abbrev somewhere : Rule
somewhere = saying (atom (Var 0 ∷ Ex 0 ∷ []) ∷ [])

-- an existential variable may become a literal
open_to_main : used_maps somewhere at_main ≡ map_to (Var 0 ∷ []) (Lit (codes "main") ∷ []) ∷ []
open_to_main = refl

-- a literal becomes nothing else
main_to_open : used_maps at_main somewhere ≡ []
main_to_open = refl

-- nor does an exported variable become an existential one
known_to_open : used_maps (saying (atom (Var 0 ∷ Var 1 ∷ []) ∷ [])) somewhere ≡ []
known_to_open = refl

-- it may become another variable, or a literal; maps come in the order of the atoms that they choose
each_choice : used_maps (saying (atom (Var 0 ∷ []) ∷ [])) (saying (atom (Var 1 ∷ []) ∷ atom (Lit (codes "a") ∷ []) ∷ []))
    ≡ map_to (Var 1 ∷ []) [] ∷ map_to (Lit (codes "a") ∷ []) [] ∷ []
each_choice = refl

-- of maps that agree on the exported variables the first alone is used
first_of_two : used_maps somewhere (saying (atom (Var 0 ∷ Lit (codes "a") ∷ []) ∷ atom (Var 0 ∷ Lit (codes "b") ∷ []) ∷ []))
    ≡ map_to (Var 0 ∷ []) (Lit (codes "a") ∷ []) ∷ []
first_of_two = refl

-- a variable meets the same wherever it stands
not_two_images : used_maps (saying (atom (Ex 0 ∷ Ex 0 ∷ []) ∷ [])) at_main ≡ []
not_two_images = refl

-- ---- lists of rules

abbrev rules : List Rule
rules = at_main ∷ somewhere ∷ []

covers_by_both : covers_of rules
    ≡ ((map_to (Var 0 ∷ []) [] ∷ []) ∷ [] ∷ []) ∷ ((map_to (Var 0 ∷ []) (Lit (codes "main") ∷ []) ∷ []) ∷ (map_to (Var 0 ∷ []) (Ex 0 ∷ []) ∷ []) ∷ []) ∷ []
covers_by_both = refl

main_is_before_open : before rules 0 1 ≡ true
main_is_before_open = refl

open_is_not_before_main : before rules 1 0 ≡ false
open_is_not_before_main = refl

-- of two that lead to each other the first is before the second; none is before itself
first_twin_is_before : before (somewhere ∷ somewhere ∷ []) 0 1 ≡ true
first_twin_is_before = refl

second_twin_is_not : before (somewhere ∷ somewhere ∷ []) 1 0 ≡ false
second_twin_is_not = refl

none_before_itself : before (somewhere ∷ somewhere ∷ []) 1 1 ≡ false
none_before_itself = refl

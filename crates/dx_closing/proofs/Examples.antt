-- Closings of small conclusions.
use Rattle.std.proofs.Common.{◌≡◌, List, [], ◌∷◌, ℕ, refl, false, ap, arith, length}
use Rattle.std.specs.Prelude.{flat_map}
use Rattle.dx_model.specs.declared.rules.Cell.{Cell}
use Rattle.dx_model.specs.declared.rules.Cell.TheVariants.{Var, Ex, Lit}
use Rattle.dx_model.specs.declared.rules.Atom.{Atom}
use Rattle.dx_model.specs.declared.rules.Derived.{Derived}
use Rattle.dx_model.specs.declared.rules.Rule.{Rule}
use Rattle.dx_model.specs.declared.tables.Link.{Link}
use Rattle.dx_model.specs.Rules.{cells_of}
use Rattle.dx_model.specs.Tables.{Table}
use Rattle.dx_schema.specs.Forest.{Forest, none, set, bare_set}
use Rattle.dx_schema.specs.Tables.{model_tables}
use Rattle.dx_base.specs.Texts.{Text}
use Rattle.dx_closing.specs.Closing.{IsClosing, IsClosingOf}

abbrev a : Text
a = 97 ∷ []

abbrev b : Text
b = 98 ∷ []

abbrev c : Text
c = 99 ∷ []

abbrev atom : ℕ → List Cell → Atom
atom t cells = record { table = t; cells = cells }

-- ---- an inner set

-- unit(#id, b) with the inner set staff(#up, a)
abbrev units : Forest
units = set (bare_set a (b ∷ [])) (set (bare_set b (a ∷ [])) none none) none

abbrev unit : Cell → Cell → Atom
unit id name = atom 0 (id ∷ name ∷ [])

abbrev staff : Cell → Cell → Atom
staff up name = atom 1 (up ∷ name ∷ [])

-- staff(y0, x0) closes to staff(y0, x0), unit(y0, y1)
staff-closed : IsClosing (model_tables units) (staff (Ex 0) (Var 0) ∷ []) (staff (Ex 0) (Var 0) ∷ unit (Ex 0) (Ex 1) ∷ [])
staff-closed = refl

-- what is closed already stays
units-stay : IsClosing (model_tables units) (unit (Ex 0) (Lit a) ∷ staff (Ex 0) (Var 0) ∷ staff (Ex 0) (Var 1) ∷ []) (unit (Ex 0) (Lit a) ∷ staff (Ex 0) (Var 0) ∷ staff (Ex 0) (Var 1) ∷ [])
units-stay = refl

-- an atom after serves as well
unit-behind : IsClosing (model_tables units) (staff (Ex 0) (Var 0) ∷ unit (Ex 0) (Var 1) ∷ []) (staff (Ex 0) (Var 0) ∷ unit (Ex 0) (Var 1) ∷ [])
unit-behind = refl

-- another unit does not: staff(y0, x0), unit(y1, x1) gets unit(y0, y2)
other-unit : IsClosing (model_tables units) (staff (Ex 0) (Var 0) ∷ unit (Ex 1) (Var 1) ∷ []) (staff (Ex 0) (Var 0) ∷ unit (Ex 1) (Var 1) ∷ unit (Ex 0) (Ex 2) ∷ [])
other-unit = refl

-- no atoms
nothing-stays : IsClosing (model_tables units) [] []
nothing-stays = refl

-- ---- two links to one set

-- trip(a, b, c) with refs from b and from c to a of city(a, b)
abbrev trips : Forest
trips =
    set (record { name = a; columns = a ∷ b ∷ c ∷ []; keys = []; deps = []; refs = record { columns = b ∷ []; set = b; referred = a ∷ []; optional = false } ∷ record { columns = c ∷ []; set = b; referred = a ∷ []; optional = false } ∷ [] }) none
    (set (bare_set b (a ∷ b ∷ [])) none none)

abbrev trip : Cell → Cell → Cell → Atom
trip number start goal = atom 0 (number ∷ start ∷ goal ∷ [])

abbrev city : Cell → Cell → Atom
city code label = atom 1 (code ∷ label ∷ [])

-- trip(x0, y0, y1) closes with city(y0, y2), city(y1, y3)
trip-closed : IsClosing (model_tables trips) (trip (Var 0) (Ex 0) (Ex 1) ∷ []) (trip (Var 0) (Ex 0) (Ex 1) ∷ city (Ex 0) (Ex 2) ∷ city (Ex 1) (Ex 3) ∷ [])
trip-closed = refl

-- trip(x0, y0, y0) closes with one city
round-trip-closed : IsClosing (model_tables trips) (trip (Var 0) (Ex 0) (Ex 0) ∷ []) (trip (Var 0) (Ex 0) (Ex 0) ∷ city (Ex 0) (Ex 1) ∷ [])
round-trip-closed = refl

-- trip(x0, x1, "a"), city(x1, y0) gets the city that is not there
goal-closed : IsClosing (model_tables trips) (trip (Var 0) (Var 1) (Lit a) ∷ city (Var 1) (Ex 0) ∷ []) (trip (Var 0) (Var 1) (Lit a) ∷ city (Var 1) (Ex 0) ∷ city (Lit a) (Ex 1) ∷ [])
goal-closed = refl

-- ---- links one after another, and links of two columns

abbrev table : ℕ → List Link → Table
table width links = record { width = width; determinations = []; links = links; optional = [] }

abbrev link : ℕ → ℕ → ℕ → Link
link from to_table to = record { from = from ∷ []; table = to_table; to = to ∷ [] }

-- what is appended is gone through as well
chain : IsClosing (table 1 (link 0 1 0 ∷ []) ∷ table 2 (link 1 2 0 ∷ []) ∷ table 2 [] ∷ []) (atom 0 (Var 3 ∷ []) ∷ []) (atom 0 (Var 3 ∷ []) ∷ atom 1 (Var 3 ∷ Ex 0 ∷ []) ∷ atom 2 (Ex 0 ∷ Ex 1 ∷ []) ∷ [])
chain = refl

-- columns in another order: the referred columns have the cells of the referring columns
crossed :
    IsClosing (table 3 [] ∷ table 3 (record { from = 2 ∷ 0 ∷ []; table = 0; to = 0 ∷ 2 ∷ [] } ∷ []) ∷ []) (atom 1 (Var 0 ∷ Var 1 ∷ Var 2 ∷ []) ∷ [])
    (atom 1 (Var 0 ∷ Var 1 ∷ Var 2 ∷ []) ∷ atom 0 (Var 2 ∷ Ex 0 ∷ Var 0 ∷ []) ∷ [])
crossed = refl

-- optional links are not gone along
optional_stays : IsClosing (record { width = 1; determinations = []; links = []; optional = link 0 1 0 ∷ [] } ∷ table 1 [] ∷ []) (atom 0 (Var 0 ∷ []) ∷ []) (atom 0 (Var 0 ∷ []) ∷ [])
optional_stays = refl

-- ---- closings of rules

-- a rule with one premise atom and one derived variable
abbrev hired : List Cell → List ℕ → List Atom → Rule
hired cells args conclusion = record { premise = atom 0 cells ∷ []; derived = record { code = 0; args = args } ∷ []; conclusion = conclusion }

-- table 0 (x0, x1), with x2 made of x1 -> staff(y0, x2)
abbrev open_rule : Rule
open_rule = hired (Var 0 ∷ Var 1 ∷ []) (1 ∷ []) (staff (Ex 0) (Var 2) ∷ [])

abbrev closed : List Atom
closed = staff (Ex 0) (Var 2) ∷ unit (Ex 0) (Ex 1) ∷ []

-- its closing has the same premise and derived variables
closing_of : IsClosingOf (model_tables units) open_rule (hired (Var 0 ∷ Var 1 ∷ []) (1 ∷ []) closed)
closing_of = record { premise = refl; derived = refl; conclusion = refl }

-- with another premise it is none
other_premise : ¬ IsClosingOf (model_tables units) open_rule (hired (Var 0 ∷ []) (1 ∷ []) closed)
other_premise h = let d : ◌≡◌ {A = ℕ} 1 2 = ap (λ (xs : List Atom). length (cells_of xs)) h.premise in omega (arith, d)

-- nor with another derived variable
other_derived : ¬ IsClosingOf (model_tables units) open_rule (hired (Var 0 ∷ Var 1 ∷ []) (1 ∷ 1 ∷ []) closed)
other_derived h = let d : ◌≡◌ {A = ℕ} 2 1 = ap (λ (ds : List Derived). length (flat_map (λ (e : Derived). e.args) ds)) h.derived in omega (arith, d)

-- and what is not closed is no closing
not_closed : ¬ IsClosingOf (model_tables units) open_rule open_rule
not_closed h = let d : ◌≡◌ {A = ℕ} 2 1 = ap (λ (xs : List Atom). length xs) h.conclusion in omega (arith, d)

-- nor one that has lost its conclusion
lost_conclusion : ¬ IsClosingOf (model_tables units) open_rule (hired (Var 0 ∷ Var 1 ∷ []) (1 ∷ []) [])
lost_conclusion h = let d : ◌≡◌ {A = ℕ} 1 0 = ap (λ (xs : List Atom). length xs) h.conclusion in omega (arith, d)

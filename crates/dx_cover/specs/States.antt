-- States of the search for cell maps: what is below a state that the search has gone through gives nothing new.
use Rattle.std.specs.Prelude.{◌≡◌, ◌↔◌, ℕ, ◌-◌, ◌≤◌, Bool, true, false, cond, eqb, nat_lt}
use Rattle.std.specs.Prelude.{◌&&◌, ◌||◌, List, [], ◌∷◌, ◌++◌, map, length, drop}
use Rattle.std.specs.List.{filter, list_any}
use Rattle.dx_base.specs.Members.{Each}
use Rattle.dx_model.specs.declared.rules.Cell.{Cell}
use Rattle.dx_model.specs.declared.rules.Cell.TheVariants.{Var, Ex, Lit}
use Rattle.dx_model.specs.declared.rules.Atom.{Atom}
use Rattle.dx_model.specs.declared.rules.Rule.{Rule}
use Rattle.dx_model.specs.declared.covers.CellMap.{CellMap}
use Rattle.dx_model.specs.declared.covers.Meeting.{Meeting}
use Rattle.dx_model.specs.Covers.{is_cell_map, same_cell}
use Rattle.dx_cover.specs.declared.states.TheConstants.{MOST_STATES}
use Rattle.dx_cover.specs.declared.states.State.{State}
use Rattle.dx_cover.specs.declared.states.Search.{Search}
use Rattle.dx_cover.specs.declared.search.Outlook.{Outlook}
use Rattle.dx_cover.specs.declared.search.Outlook.TheVariants.{NoMap, NothingNew, Open}
use Rattle.dx_cover.specs.Search.{found_after, maps_under}

-- a cell stands in these atoms
abbrev pub stands_in : List Atom → Cell → Bool
stands_in rest c = list_any (λ (a : Atom). list_any (same_cell c) a.cells) rest

-- a cell counts for the rest: it stands there, or is an exported variable if those count
abbrev pub counts : Bool → List Atom → Cell → Bool
counts exported rest (Var x) = exported || stands_in rest (Var x)
counts exported rest (Ex v) = stands_in rest (Ex v)
counts exported rest (Lit t) = stands_in rest (Lit t)

-- the meetings of the cells that count for the rest
abbrev pub counted_meetings : Bool → List Atom → List Meeting → List Meeting
counted_meetings exported rest ms = filter (λ (m : Meeting). counts exported rest m.cell) ms

-- the state of a search that has met these cells and has the rest before it, with or without the exported variables
abbrev pub state_of : Bool → List Atom → List Meeting → State
state_of exported rest ms = record { left = length rest; meetings = counted_meetings exported rest ms }

-- whether two rows of meetings are equal
abbrev pub same_meetings : List Meeting → List Meeting → Bool
same_meetings [] [] = true
same_meetings (m ∷ ms) (n ∷ ns) = (same_cell m.cell n.cell && same_cell m.met n.met) && same_meetings ms ns
same_meetings _ _ = false

-- whether two states are equal
abbrev pub same_state : State → State → Bool
same_state s t = eqb s.left t.left && same_meetings s.meetings t.meetings

-- the states with one more, if they are fewer than MOST_STATES
abbrev pub remembered : List State → State → List State
remembered gone s = cond (nat_lt (length gone) MOST_STATES) (gone ++ s ∷ []) gone

-- the last n atoms
abbrev pub last : ℕ → List Atom → List Atom
last n atoms = drop (length atoms - n) atoms

-- the cell maps from rule i below a state
abbrev pub maps_below : Rule → List Atom → State → List CellMap
maps_below i others s = maps_under i s.meetings (last s.left i.conclusion) others

-- what is below the state adds nothing to what is found: nothing there is new, or all are found
abbrev pub AddsNothing : Rule → List Atom → List CellMap → State → Type 0
AddsNothing i others found s = found_after found (maps_below i others s) ≡ found

-- no cell map is below the state
abbrev pub IsDead : Rule → List Atom → State → Type 0
IsDead i others s = maps_below i others s ≡ []

-- a search for the cell maps from rule i remembers only states that add nothing, and dead ones
pub record IsSearch (i : Rule) (others : List Atom) (s : Search) : Type 0 where
  pub few : length s.found.items ≤ 16
  pub gone : Each s.gone.items (AddsNothing i others s.found.items)
  pub dead : Each s.dead.items (IsDead i others)

-- the outlook for the cell maps that begin with these meetings is true
abbrev pub IsTrueFor : Outlook → Rule → List Meeting → List Atom → List Atom → List CellMap → Type 0
IsTrueFor NoMap i bound rest others found = maps_under i bound rest others ≡ []
IsTrueFor NothingNew i bound rest others found = found_after found (maps_under i bound rest others) ≡ found
IsTrueFor Open i bound rest others found = (is_cell_map bound ≡ true) × (length found ≤ 15)

-- the images of the exported variables under these maps
abbrev pub exported_images : List CellMap → List (List Cell)
exported_images ks = map (λ (k : CellMap). k.exported) ks

-- the meetings of the state alone give the exported variables the same images
abbrev pub StateIsEnough : Type 0
StateIsEnough =
    (i : Rule) (bound : List Meeting) (rest others : List Atom) → is_cell_map bound ≡ true
    → exported_images (maps_under i (counted_meetings true rest bound) rest others)
    ≡ exported_images (maps_under i bound rest others)

-- the meetings of the state alone, without the exported variables, are enough to tell whether there is a cell map
abbrev pub DeadIsEnough : Type 0
DeadIsEnough =
    (i : Rule) (bound : List Meeting) (rest others : List Atom) → is_cell_map bound ≡ true
    → (maps_under i (counted_meetings false rest bound) rest others ≡ []) ↔ (maps_under i bound rest others ≡ [])

-- what was gone through adds nothing
abbrev pub GoneAddsNothing : Type 0
GoneAddsNothing = (found ks : List CellMap) → found_after (found_after found ks) ks ≡ found_after found ks

-- what adds nothing adds nothing later
abbrev pub NothingStays : Type 0
NothingStays =
    (found ks more : List CellMap) → length found ≤ 16 → found_after found ks ≡ found
    → found_after (found_after found more) ks ≡ found_after found more

-- maps that give the exported variables the same images as maps that add nothing add nothing
abbrev pub SameAddNothing : Type 0
SameAddNothing =
    (found ks ls : List CellMap) → length found ≤ 16 → exported_images ks ≡ exported_images ls
    → found_after found ks ≡ found
    → found_after found ls ≡ found

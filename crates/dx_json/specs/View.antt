-- The data that a tree stands for.
use Rattle.std.specs.Prelude.{ℕ, List, [], ◌∷◌, map, Option, option_map}
use Rattle.std.specs.Borrow.{Bor}
use Rattle.serde_json.specs.Data.{Data, null, boolean, number, string, array}
use Rattle.serde_json.specs.Data.{object, Items, Members, no_members, member}
use Rattle.serde_json.specs.View.{items_of, number_view}
use Rattle.dx_json.specs.declared.tree.Json.{Json, fold-Json}
use Rattle.dx_json.specs.declared.tree.Json.TheOpen.{Json-F}

abbrev pub members_of : List (Bor (List ℕ) × Data) → Members
members_of [] = no_members
members_of (m ∷ ms) = member m.0.now m.1 (members_of ms)

-- one level, with each value inside already seen as its data
abbrev pub view_step : Json-F Data → Data
view_step Json-F.Null = null
view_step (Json-F.Bool b) = boolean b
view_step (Json-F.Number x) = number (number_view x)
view_step (Json-F.String s) = string s.now
view_step (Json-F.Array v) = array (items_of v.items)
view_step (Json-F.Object v) = object (members_of v.items)

abbrev pub view : Json → Data
view = fold-Json Data view_step

-- the data of a value that is lent, if there is one
abbrev pub lent_view : Option (Bor Json) → Option Data
lent_view o = option_map (λ v. view v.now) o

abbrev pub items_view : List Json → Items
items_view vs = items_of (map view vs)

abbrev pub members_view : List (Bor (List ℕ) × Json) → Members
members_view ms = members_of (map (λ m. (m.0, view m.1)) ms)

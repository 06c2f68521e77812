-- What the first of some tokens are read as, and the tokens after them.
-- Arrays and objects nest no deeper than the number.
use Rattle.std.specs.Prelude.{ℕ, List, length, Option}
use Rattle.json.specs.Json.{items, members, value}
use Rattle.json.specs.Token.{Token}
use Rattle.serde_json.specs.Data.{Data, Items, Members, no_members}
use Rattle.serde_json.specs.Read.{converted, of_items, of_json, of_members}

-- a value
abbrev pub value_read : ℕ → List Token → Option (Data × List Token)
value_read depth ts = converted of_json (value depth ts)

-- the items of an array, with its end
abbrev pub items_read : ℕ → List Token → Option (Items × List Token)
items_read depth ts = converted of_items (items (value depth) (length ts) ts)

-- the members of an object, with its end
abbrev pub members_read : ℕ → List Token → Option (Members × List Token)
members_read depth ts = converted (λ ms. of_members ms no_members) (members (value depth) (length ts) ts)

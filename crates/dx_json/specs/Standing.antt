-- Where the tables of inner sets stand.
use Rattle.std.specs.Prelude.{ℕ, suc, ◌+◌, ◌<◌, ◌≤◌, List, length, true, ⊤}
use Rattle.dx_schema.specs.Forest.{Forest, none, set}
use Rattle.dx_schema.specs.Tables.{count}
use Rattle.dx_instance.specs.Stored.{TableRows, table_at}
use Rattle.dx_json.specs.Nesting.{own_from}

-- each of the sets has its table there, with a column `#up` and its own columns; the first one's has this number
abbrev pub Stand : List TableRows → ℕ → Forest → Type 0
Stand I table none = ⊤
Stand I table (set l inner rest) =
    (table < length I) × (own_from inner true + length l.columns ≤ (table_at I table).width)
    × Stand I (suc table) inner × Stand I (suc (table + count inner)) rest

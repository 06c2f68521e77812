-- Demands in parts: what the rows of a table owe to one determination, part after part.
use Rattle.std.specs.Prelude.{◌≡◌, ℕ, ◌<◌, ◌+◌, List, [], ◌∷◌, ◌++◌, map, length, slice_index_or}
use Rattle.std.specs.List.{range_with_len}
use Rattle.dx_base.specs.Members.{Each}
use Rattle.dx_chase.specs.Demands.{Demand}
use Rattle.dx_chase.specs.Tables.{ChaseTable}
use Rattle.dx_chase.specs.Joins.{nth}
use Rattle.dx_chase.specs.Rows.{ColumnsFit, demand_of, determination_count, row_count}
use Rattle.dx_chase.specs.declared.asked.Part.{Part}

-- the numbers of a row in some columns
abbrev pub picked : List ℕ → List ℕ → List ℕ
picked numbers columns = map (nth numbers) columns

-- the columns are those of the row, and its numbers there are below n
pub record ColumnsPick (n : ℕ) (numbers columns : List ℕ) : Type 0 where
  pub columns_in : Each columns (λ k. k < length numbers)
  pub numbers_in : Each (picked numbers columns) (λ v. v < n)

abbrev pub chase_part_at : List Part → ℕ → Part
chase_part_at parts k = slice_index_or parts k (record { first = 0; table = 0; determination = 0 })

-- the demands of a part: one of each row
abbrev pub part_demands : List ChaseTable → Part → List Demand
part_demands tables p = map (demand_of tables p.table p.determination) (range_with_len 0 (row_count tables p.table))

abbrev pub demands_in : List ChaseTable → List Part → List Demand
demands_in tables [] = []
demands_in tables (p ∷ ps) = part_demands tables p ++ demands_in tables ps

-- the parts have the numbers from `start` up to `end`, each the next as many as its table has rows
abbrev pub LieFrom : List ChaseTable → ℕ → List Part → ℕ → Type 0
LieFrom tables start [] end = start ≡ end
LieFrom tables start (p ∷ ps) end =
    (p.first ≡ start) × (p.table < length tables) × (p.determination < determination_count tables p.table)
    × LieFrom tables (start + row_count tables p.table) ps end

-- the parts have the numbers below `end`, and determinations speak of columns of the rows
pub record AreParts (tables : List ChaseTable) (parts : List Part) (end : ℕ) : Type 0 where
  pub lie : LieFrom tables 0 parts end
  pub fit : ColumnsFit tables

-- What is given to make the tables of sets.
use Rattle.std.specs.Prelude.{◌≡◌, ◌+◌, ◌<◌, ◌≤◌, List, length, map}
use Rattle.dx_base.specs.declared.limits.TheConstants.{TABLES, COLUMNS}
use Rattle.dx_base.specs.Members.{Each}
use Rattle.dx_base.specs.Texts.{Text}
use Rattle.dx_schema.specs.declared.nodes.Node.{Node}
use Rattle.dx_schema.specs.Tables.{columns_of, count, names_of}
use Rattle.dx_schema.specs.Nodes.{node_view}

-- these are the columns of a set's table, few enough
pub record IsOwnList (node : Node) (own : List Text) : Type 0 where
  pub are : own ≡ columns_of (node_view node)
  pub few : length own ≤ COLUMNS

-- these are the columns of the table of each set, few enough of each
pub record IsColumnLists (sets : List Node) (columns : List (List Text)) : Type 0 where
  pub are : columns ≡ map columns_of (map node_view sets)
  pub narrow : Each columns (λ c. length c ≤ COLUMNS)

-- these are the names of the sets, few enough, and the columns of their tables
pub record IsOverview (sets : List Node) (names : List Text) (columns : List (List Text)) : Type 0 where
  pub named : names ≡ names_of (map node_view sets)
  pub few : length names ≤ TABLES
  pub lists : IsColumnLists sets columns

-- the tables of these sets can be made: these are their names, few enough, no table is too wide,
-- and their numbers are small
pub record IsReadyForTables (sets : List Node) (names : List Text) : Type 0 where
  pub named : names ≡ names_of (map node_view sets)
  pub few : length names ≤ TABLES
  pub narrow : Each (map columns_of (map node_view sets)) (λ c. length c ≤ COLUMNS)
  pub bounded : Each (map node_view sets) (λ s. s.number + count s.inner < TABLES)

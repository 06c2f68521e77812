-- Tables and columns by their names.
use Rattle.std.specs.Prelude.{◌≡◌, ◌<◌, ℕ, List, [], length, map, slice_index_or}
use Rattle.dx_base.specs.Texts.{Text}
use Rattle.dx_schema.specs.Tables.{number_of_name}
use Rattle.dx_schema.specs.Names.{TableNames}

-- the table with a number
abbrev pub table_numbered : List TableNames → ℕ → TableNames
table_numbered tables t = slice_index_or tables t (record { name = []; columns = [] })

-- it is the table of this number
abbrev pub IsTableAt : List TableNames → ℕ → TableNames → Type 0
IsTableAt tables t table = (t < length tables) × (table_numbered tables t ≡ table)

-- the names of tables
abbrev pub table_names : List TableNames → List Text
table_names tables = map (λ (t : TableNames). t.name) tables

-- the number of the table with a name
abbrev pub table_named : List TableNames → Text → ℕ
table_named tables name = number_of_name name (table_names tables)

-- the number of the column with a name in the table with a number
abbrev pub column_named : List TableNames → ℕ → Text → ℕ
column_named tables t name = number_of_name name (table_numbered tables t).columns

-- the name of a column of the table with a number
abbrev pub column_at : List TableNames → ℕ → ℕ → Text
column_at tables t c = slice_index_or (table_numbered tables t).columns c []

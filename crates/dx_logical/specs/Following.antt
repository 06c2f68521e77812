-- From where links are followed.
use Rattle.std.specs.Prelude.{◌≡◌, ◌<◌, ℕ, List, length}
use Rattle.dx_model.specs.declared.tables.Link.{Link}
use Rattle.dx_model.specs.Tables.{AllInside}
use Rattle.dx_schema.specs.Forest.{Forest}
use Rattle.dx_schema.specs.Tables.{schema_table, tables_of}
use Rattle.dx_logical.specs.declared.occurrences.Start.{Start}

-- the start is at an occurrence of a table of the schema: it has a variable for each column
pub record IsStart (f : Forest) (s : Start) : Type 0 where
  pub table : s.table < length (tables_of f)
  pub own : length s.own ≡ length (schema_table f s.table).columns

-- a link leads from columns of an occurrence with these variables to as many of a table of the schema
pub record LeadsOn (f : Forest) (vs : List ℕ) (l : Link) : Type 0 where
  pub table : l.table < length (tables_of f)
  pub from : AllInside l.from (length vs)
  pub pairs : length l.to ≡ length l.from

use Rattle.std.proofs.Common.{map, take}
use Rattle.dx_schema.specs.Tables.{tables_of}
use Rattle.clio_files.specs.Files.{printed_view}
use Rattle.clio_files.specs.Printing.{AddsTables}
use Rattle.clio_files.proofs.tables.push_tables.Given as goal

-- the files added are those of the tables so far
abbrev pub invariant-loop-table : goal.invariant-loop-table
invariant-loop-table l = AddsTables l.front (take l.table (tables_of l.schema)) l.instance (map printed_view l.fn.files.items) (map printed_view l.files.items)

use Rattle.dx_schema.specs.Tables.{model_tables}
use Rattle.dx_keys.proofs.NumberTables.{AreFirst}
use Rattle.dx_keys.proofs.tables.number_tables.Given as goal

abbrev pub invariant-loop-table : goal.invariant-loop-table
invariant-loop-table l = AreFirst (model_tables l.schema) l.tables l.table l.all.items

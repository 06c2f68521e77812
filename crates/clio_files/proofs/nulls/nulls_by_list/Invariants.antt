use Rattle.std.proofs.Common.{◌≡◌, take, flat_map}
use Rattle.dx_instance.specs.Shown.{shown_tables}
use Rattle.clio_files.proofs.SheetNulls.{table_nulls}
use Rattle.clio_files.proofs.nulls.nulls_by_list.Given as goal

abbrev pub invariant-loop-table : goal.invariant-loop-table
invariant-loop-table l = l.nulls.items ≡ flat_map table_nulls (take l.table (shown_tables l.target.symbols l.target.tables))

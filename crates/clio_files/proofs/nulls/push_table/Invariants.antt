use Rattle.std.proofs.Common.{◌≡◌, ◌++◌, take, flat_map}
use Rattle.dx_model.specs.Instances.{nulls_in}
use Rattle.dx_instance.specs.Shown.{shown_tables}
use Rattle.dx_instance.specs.Stored.{rows_of}
use Rattle.clio_files.proofs.nulls.push_table.Given as goal

abbrev pub invariant-loop-place : goal.invariant-loop-place
invariant-loop-place l =
    l.nulls.items ≡ l.fn.nulls.items ++ flat_map nulls_in (take l.place (rows_of (shown_tables l.target.symbols l.target.tables) l.table))

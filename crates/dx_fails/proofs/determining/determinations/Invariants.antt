use Rattle.std.proofs.Common.{◌≡◌, ◌++◌, map, take, length}
use Rattle.dx_model.specs.declared.tables.Key.{Key}
use Rattle.dx_model.specs.Tables.{key_of}
use Rattle.dx_schema.specs.Tables.{dep_of, key_determinations, schema_table}
use Rattle.dx_fails.specs.Shown.{as_determination}
use Rattle.dx_fails.proofs.determining.determinations.Given as goal

abbrev pub invariant-loop-key : goal.invariant-loop-key
invariant-loop-key l =
    map as_determination l.found.items
    ≡ map (λ (k : Key). key_of (length (schema_table l.schema l.table).columns) k.columns) (take l.key-index l.key-items)

abbrev pub invariant-loop-dep : goal.invariant-loop-dep
invariant-loop-dep l =
    map as_determination l.found.items ≡ key_determinations (schema_table l.schema l.table) ++ map dep_of (take l.dep-index l.dep-items)

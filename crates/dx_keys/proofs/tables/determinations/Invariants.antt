use Rattle.std.proofs.Common.{◌≡◌, ◌++◌, map, take}
use Rattle.dx_schema.specs.Tables.{dep_of, key_determinations, schema_table}
use Rattle.dx_keys.specs.Numbers.{determination_of}
use Rattle.dx_keys.proofs.tables.determinations.Given as goal

abbrev pub invariant-loop-dep : goal.invariant-loop-dep
invariant-loop-dep l = map determination_of l.all ≡ key_determinations (schema_table l.schema l.table) ++ map dep_of (take l.dep-index l.dep-items)

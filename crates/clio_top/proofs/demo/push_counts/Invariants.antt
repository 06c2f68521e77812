use Rattle.std.proofs.Common.{◌≡◌, ◌++◌, take}
use Rattle.std.specs.Prelude.{string_bytes}
use Rattle.dx_schema.specs.Tables.{tables_of}
use Rattle.clio_top.specs.Demo.{counts_text}
use Rattle.clio_top.proofs.demo.push_counts.Given as goal

abbrev pub invariant-loop-table : goal.invariant-loop-table
invariant-loop-table l = string_bytes l.text ≡ string_bytes l.initial.text ++ counts_text 0 (take l.table (tables_of l.schema)) l.target

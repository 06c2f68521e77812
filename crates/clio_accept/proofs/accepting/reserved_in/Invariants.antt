use Rattle.std.proofs.Common.{ℕ, ◌<◌}
use Rattle.dx_schema.specs.Tables.{schema_table}
use Rattle.clio_accept.specs.Mapping.{IsReserved}
use Rattle.clio_accept.proofs.accepting.reserved_in.Given as goal

abbrev pub invariant-loop-table : goal.invariant-loop-table
invariant-loop-table l = (t : ℕ) → t < l.table → ¬ (IsReserved (schema_table l.target t).name)

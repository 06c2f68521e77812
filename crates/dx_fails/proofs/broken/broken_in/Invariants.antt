use Rattle.std.proofs.Common.{◌<◌, ℕ}
use Rattle.dx_schema.specs.Tables.{model_tables}
use Rattle.dx_instance.specs.Stored.{facts}
use Rattle.dx_fails.specs.Firsts.{DeterminationHolds}
use Rattle.dx_fails.proofs.broken.broken_in.Given as goal

abbrev pub invariant-loop-key : goal.invariant-loop-key
invariant-loop-key l = (k : ℕ) → k < l.key → DeterminationHolds (model_tables l.schema) (facts l.instance) l.table k

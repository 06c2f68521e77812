use Rattle.std.proofs.Common.{◌≡◌}
use Rattle.dx_schema.specs.Tables.{schema_widths}
use Rattle.dx_instance.specs.Stored.{widths}
use Rattle.eval_tests.proofs.tests.runs.instance_of.Given as goal

abbrev pub invariant-loop-line : goal.invariant-loop-line
invariant-loop-line l = widths l.instance ≡ schema_widths l.schema

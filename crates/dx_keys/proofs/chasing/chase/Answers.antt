use Rattle.dx_schema.specs.Tables.{model_tables}
use Rattle.dx_keys.proofs.Unforced.{free_is_keyed}
use Rattle.dx_keys.proofs.chasing.chase.Goals as goal

pub returns-clause-ok : goal.returns-clause-ok
returns-clause-ok c = c.in_ok-unchanged.ensures (model_tables c.args.schema.now) (free_is_keyed c.args.schema.now c.args.instance c.requires c.tables.ensures.rows (c.has_no_determinations.ensures.0 c.if-not-has_no_determinations.false))

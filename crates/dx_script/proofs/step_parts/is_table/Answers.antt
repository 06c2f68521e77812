use Rattle.dx_script.proofs.Made.{names_are}
use Rattle.dx_script.proofs.step_parts.is_table.Goals as goal

pub returns : goal.returns
returns c = rw (names_are c.args.schema.now, c.is_some.ensures) c.table_named.ensures.none

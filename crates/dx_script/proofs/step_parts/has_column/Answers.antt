use Rattle.std.proofs.lemmas.Bool.{false≢true}
use Rattle.dx_script.proofs.Made.{no_column, table_nowhere, table_there}
use Rattle.dx_script.proofs.step_parts.has_column.Goals as goal

pub returns-in-Some : goal.returns-in-Some
returns-in-Some c =
    let t = table_there c.args.schema.now c.in-Some.number c.args.table.now c.tables.ensures.facts (c.in-Some.ensures.some.0) (c.in-Some.ensures.some.1) in
    rw (t, c.is_some.ensures) c.column_named.ensures.none

pub returns-in-None : goal.returns-in-None
returns-in-None c =
    let n = table_nowhere c.args.schema.now c.args.table.now (λ m. false≢true (c.in-None.ensures.none.1 m)) in
    rw n (no_column c.args.column.now)

use Rattle.std.proofs.Common.{sym, ◌∙◌, ap, length}
use Rattle.std.proofs.lemmas.Bool.{false≢true}
use Rattle.dx_schema.specs.Names.{TableNames}
use Rattle.dx_script.proofs.Made.{table_nowhere, table_there}
use Rattle.dx_script.proofs.step_parts.width_named.Goals as goal

pub returns-in-Some : goal.returns-in-Some
returns-in-Some c =
    c.from.ensures ∙ c.width.ensures.number
    ∙ ap (λ (z : TableNames). length z.columns) (sym (table_there c.args.schema.now c.in-Some.number c.args.table.now c.tables.ensures.facts (c.in-Some.ensures.some.0) (c.in-Some.ensures.some.1)))

pub returns-in-None : goal.returns-in-None
returns-in-None c =
    ap (λ (z : TableNames). length z.columns) (sym (table_nowhere c.args.schema.now c.args.table.now (λ m. false≢true (c.in-None.ensures.none.1 m))))

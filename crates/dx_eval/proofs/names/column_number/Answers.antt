use Rattle.std.proofs.Common.{◌∙◌, ap}
use Rattle.std.proofs.lemmas.Bool.{false≢true}
use Rattle.dx_script.specs.Names.{column_named}
use Rattle.dx_schema.specs.Names.{table_names_of}
use Rattle.dx_eval.proofs.NumberOfNames.{column_name_there, column_there}
use Rattle.dx_eval.proofs.names.column_number.Goals as goal

pub returns : goal.returns
returns c =
    column_there c.args.schema.now c.table_number-number.result c.in-Some.number c.args.name.now c.tables.ensures.facts c.table_number-number.ensures.there c.in-Some.ensures.some.0 c.in-Some.ensures.some.1
    ∙ ap (λ t. column_named (table_names_of c.args.schema.now) t c.args.name.now) c.table_number-number.ensures.number

pub unreachable-requires : goal.unreachable-requires
unreachable-requires c =
    false≢true (c.in-None.ensures.none.1 (column_name_there c.args.schema.now c.table_number-number.result _ c.args.name.now c.table_number-number.ensures.there c.table_number-number.ensures.number c.requires.column))

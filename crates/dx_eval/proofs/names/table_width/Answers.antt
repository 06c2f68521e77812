use Rattle.std.proofs.Common.{◌∙◌, length, ap}
use Rattle.dx_script.specs.Names.{table_numbered}
use Rattle.dx_schema.specs.Names.{table_names_of}
use Rattle.dx_eval.proofs.NumberOfNames.{width_there}
use Rattle.dx_eval.proofs.names.table_width.Goals as goal

pub returns-clause-width : goal.returns-clause-width
returns-clause-width c =
    c.width.ensures.number ∙ (width_there c.args.schema.now c.table_number.result c.table_number.ensures.there ∙ ap (λ t. length (table_numbered (table_names_of c.args.schema.now) t).columns) c.table_number.ensures.number)

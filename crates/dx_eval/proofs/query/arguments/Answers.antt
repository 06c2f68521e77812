use Rattle.dx_base.proofs.Loops.{each_item}
use Rattle.dx_schema.specs.Names.{table_names_of}
use Rattle.dx_script.specs.Fits.{CellFits}
use Rattle.dx_eval.proofs.query.arguments.Goals as goal

pub variable_of_cell-requires-clause-fits : goal.variable_of_cell-requires-clause-fits
variable_of_cell-requires-clause-fits c =
    each_item (CellFits (table_names_of c.args.aliases.now.schema.now) c.args.aliases.now.sources.now) c.args.cells.now c.loop-cell.cell-index c.cell-item.result c.loop-cell-test.true c.cell-item.is c.requires.fit

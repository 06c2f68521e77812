use Rattle.dx_base.specs.Members.{◌∈◌}
use Rattle.dx_base.proofs.Loops.{each_item}
use Rattle.dx_schema.specs.Names.{table_names_of}
use Rattle.dx_script.specs.Names.{table_names}
use Rattle.dx_eval.proofs.Joined.{cell_bound}
use Rattle.dx_eval.proofs.variables.variable_of_cell.Goals as goal

pub column_number-column-requires-clause-table : goal.column_number-column-requires-clause-table
column_number-column-requires-clause-table c =
    each_item (λ name. name ∈ table_names (table_names_of c.args.source.now)) c.args.sources.now c.args.cell.now.alias c.index-sources-alias.result c.requires.fits.alias c.index-sources-alias.is c.requires.named

pub bounds-items-column : goal.bounds-items-column
bounds-items-column c =
    rw c.items.ensures (cell_bound (table_names_of c.args.source.now) c.args.sources.now c.args.rows.now c.args.cell.now c.index-sources-alias.result c.index-rows-alias.result c.column_number-column.result
    c.requires.wide c.requires.fits c.index-sources-alias.is c.index-rows-alias.is c.column_number-column.ensures)

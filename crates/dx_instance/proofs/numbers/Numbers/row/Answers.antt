use Rattle.dx_instance.proofs.ShownFacts.{row_below}
use Rattle.dx_instance.proofs.numbers.Numbers.row.Goals as goal

pub returns-clause-below : goal.returns-clause-below
returns-clause-below c =
    row_below c.args.self.now c.self.inside.symbols.now c.self.inside.tables.now c.args.table c.args.place c.index-tables-table.result c.row.result.now c.self.view_is c.self.invariant c.index-tables-table.is c.row.ensures.row
    c.requires.table c.requires.place

use Rattle.dx_instance.proofs.SortFacts.{table_ascends}
use Rattle.dx_instance.proofs.instance.Instance.is_ascending.Goals as goal

pub returns-then-is_ordered : goal.returns-then-is_ordered
returns-then-is_ordered c =
    table_ascends c.self.inside.symbols c.self.inside.tables.items c.args.self.now c.args.table c.index.result.now c.is_ascending.result c.self.invariant c.self.view_is c.requires c.index.ensures c.if-is_ordered.ensures c.is_ascending.ensures

use Rattle.dx_instance.proofs.PartFacts.{parts_indexed}
use Rattle.dx_instance.proofs.table.Table.index.Goals as goal

pub invariant_of-self : goal.invariant_of-self
invariant_of-self c =
    parts_indexed c.self.inside.sorted c.self.inside.rows.rows c.self.inside.chains c.self.inside.indexes.items c.push.new.self.items c.in_ok-index.index c.self.invariant c.in_ok-index.ensures.index c.in_ok-push.ensures.items

use Rattle.std.proofs.Common.{ap}
use Rattle.dx_instance.specs.Cells.{NumberTable}
use Rattle.dx_instance.proofs.PartFacts.{parts_none}
use Rattle.dx_instance.proofs.table.Table.new.Goals as goal

pub invariant_of-result : goal.invariant_of-result
invariant_of-result c = parts_none c.new.result.rows c.new-2.result c.new-3.result.items (ap (λ (t : NumberTable). t.rows) c.new.ensures) c.new-2.ensures c.new-3.ensures.items

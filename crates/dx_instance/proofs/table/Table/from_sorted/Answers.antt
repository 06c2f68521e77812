use Rattle.dx_instance.proofs.PartFacts.{parts_sorted}
use Rattle.dx_instance.proofs.table.Table.from_sorted.Goals as goal

pub invariant_of-result : goal.invariant_of-result
invariant_of-result c = parts_sorted c.count.result c.args.rows.rows c.new.result c.new-2.result.items c.count.ensures.count c.count.ensures.few c.requires.ascend c.new.ensures c.new-2.ensures.items

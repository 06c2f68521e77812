use Rattle.dx_instance.proofs.SortFacts.{parts_put, instance_put}
use Rattle.dx_instance.proofs.sorted.of_ordered.Goals as goal

pub invariant_of-result : goal.invariant_of-result
invariant_of-result c =
    (parts_put c.args.symbols c.args.tables.items c.in_ok-tables.tables.items c.len.ensures.apart c.len.ensures.few c.requires.fit c.requires.few c.in_ok-tables.ensures, c.requires.ascend)

pub returns : goal.returns
returns c = instance_put c.args.symbols c.args.tables.items c.in_ok-tables.tables.items c.requires.ascend c.requires.fit c.in_ok-tables.ensures

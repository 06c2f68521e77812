use Rattle.dx_instance.proofs.FirstFacts.{ordering}
use Rattle.dx_instance.proofs.ordering.in_order.Goals as goal

pub returns : goal.returns
returns c =
    let all = rw c.deref-2.ensures.value at c.in_ok-values.ensures in
    rw (c.from_ordered.ensures, c.in_ok-ordered.ensures, all) (ordering c.args.symbols.now c.in_ok-keys.keys.items c.in_ok-keys.ranks.items c.in_ok-keys.ensures)

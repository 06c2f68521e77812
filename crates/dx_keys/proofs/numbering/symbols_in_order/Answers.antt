use Rattle.dx_keys.proofs.InOrder.{same_order}
use Rattle.dx_keys.proofs.numbering.symbols_in_order.Goals as goal

pub returns-then-is_ordered : goal.returns-then-is_ordered
returns-then-is_ordered c =
    same_order c.args.numbers.now.symbols c.in_ok-symbols.symbols c.in_ok-ranks.ranks.items c.len.result (rw c.if-is_ordered.true at c.is_ordered.ensures) c.in_ok-symbols.ensures c.len.ensures.len c.in_ok-ranks.ensures

use Rattle.dx_instance.proofs.RowKeyFacts.{order_by_keys}
use Rattle.dx_instance.proofs.SortFacts.{if_ok}
use Rattle.dx_instance.proofs.cells.Rows.in_order_by_keys.Goals as goal

pub returns : goal.returns
returns c =
    if_ok c.unpacked_rows.result (λ r e. order_by_keys c.args.packing.bits c.args.packing.width c.args.self.now r c.in_ok-keys.keys.items c.sort_unstable.new.self.items c.deref.result.now c.requires.width c.in_ok-keys.ensures.wide c.requires.below c.in_ok-keys.ensures.keys
    c.sort_unstable.ensures.permutation c.sort_unstable.ensures.sorted (rw c.deref.ensures.value c.dedup.ensures.filtered) e) c.unpacked_rows.ensures

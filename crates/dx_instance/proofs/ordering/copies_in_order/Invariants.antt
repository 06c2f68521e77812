use Rattle.std.proofs.Common.{◌≡◌, take}
use Rattle.dx_instance.proofs.JoinFacts.{values_at}
use Rattle.dx_instance.proofs.ordering.copies_in_order.Given as goal

abbrev pub invariant-loop-key : goal.invariant-loop-key
invariant-loop-key l = l.values.items ≡ values_at l.symbols (take l.key-index l.keys)

use Rattle.std.proofs.Common.{◌≡◌, take}
use Rattle.std.specs.List.{range_with_len}
use Rattle.dx_judge.proofs.Orders.{columns_in}
use Rattle.dx_judge.proofs.turning.order_of.Given as goal

abbrev pub invariant-loop-column : goal.invariant-loop-column
invariant-loop-column l = columns_in l.ranked.items ≡ range_with_len 0 l.column

abbrev pub invariant-loop-column-2 : goal.invariant-loop-column-2
invariant-loop-column-2 l = l.order ≡ columns_in (take l.column-index l.column-items)

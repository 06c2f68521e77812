use Rattle.std.proofs.Common.{◌≡◌, length}
use Rattle.dx_json.proofs.orders.empty_orders.Given as goal

abbrev pub invariant-loop : goal.invariant-loop
invariant-loop l = length l.orders.items ≡ l.counter

use Rattle.std.proofs.Common.{◌≡◌, ◌∙◌, length, subst, List, ℕ, sym}
use Rattle.dx_instance.specs.Shown.{numbers_of_table}
use Rattle.dx_judge.specs.Turned.{order_at}
use Rattle.dx_judge.proofs.Asked.{order_same}
use Rattle.dx_judge.proofs.turning.turn_tables.Goals as goal

pub turn_table-requires-clause-long : goal.turn_table-requires-clause-long
turn_table-requires-clause-long c =
    let h = rw c.tables-table-end.ensures at c.loop-table-test.true in
    let is : order_at c.args.orders.now c.loop-table.table ≡ c.items-order.result.now =
    order_same c.args.orders.now c.loop-table.table c.index-orders-table.result (rw c.requires.many h) c.index-orders-table.is ∙ sym c.items-order.ensures in
    subst (λ (o : List ℕ). length o ≡ (numbers_of_table c.args.numbers.now.tables c.loop-table.table).width) is (c.requires.each c.loop-table.table h).long

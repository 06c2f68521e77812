use Rattle.dx_judge.proofs.Orders.{is_turned, turned_rows_fit}
use Rattle.dx_judge.proofs.turning.turn.Goals as goal

pub from_rows-requires-clause-fit : goal.from_rows-requires-clause-fit
from_rows-requires-clause-fit c =
    rw c.in_ok-copy_symbols.ensures
    (turned_rows_fit c.numbers-numbers.result.symbols c.numbers-numbers.result.tables c.in_ok-tables.tables.items c.in_ok-orders.orders.items c.numbers-numbers.ensures.fit
    c.in_ok-orders.ensures (rw c.deref.ensures.value at c.in_ok-tables.ensures))

pub returns-clause-turned : goal.returns-clause-turned
returns-clause-turned c =
    rw c.in_ok-index_all.ensures
    (is_turned c.numbers-numbers.result.symbols c.numbers-numbers.result.tables c.in_ok-tables.tables.items c.in_ok-orders.orders.items c.numbers-numbers.ensures.fit
    c.in_ok-orders.ensures (rw c.deref.ensures.value at c.in_ok-tables.ensures) c.args.plain.now c.in_ok-instance.instance c.numbers-numbers.ensures.shown
    (rw c.in_ok-copy_symbols.ensures at c.in_ok-instance.ensures))

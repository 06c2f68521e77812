use Rattle.std.proofs.Common.{refl}
use Rattle.dx_core.specs.Left.{shown_by}
use Rattle.dx_core.proofs.Kept.{all_left, new_facts, new_fit, new_widths, told}
use Rattle.dx_core.proofs.sparing.Reduction.instance_left.Goals as goal

pub from_rows-requires-clause-fit : goal.from_rows-requires-clause-fit
from_rows-requires-clause-fit c =
    let n = c.args.self.now.numbers in
    let k = all_left c.args.self.now.taken n.tables c.loop-table.table c.loop-table.tables.items c.tables-table-end.result
    c.tables-table-end.ensures c.loop-table.auto.table-end c.loop-table-test.false
    c.loop-table.invariant in
    rw c.in_ok-copy_symbols.ensures (new_fit n.symbols (shown_by n) c.args.self.now.taken n.tables c.loop-table.tables.items
    refl c.len.ensures.fit k)

pub returns-clause-facts : goal.returns-clause-facts
returns-clause-facts c =
    let n = c.args.self.now.numbers in
    let k = all_left c.args.self.now.taken n.tables c.loop-table.table c.loop-table.tables.items c.tables-table-end.result
    c.tables-table-end.ensures c.loop-table.auto.table-end c.loop-table-test.false
    c.loop-table.invariant in
    told c.from_rows.result (new_facts n.symbols (shown_by n) c.args.self.now.taken n.tables c.loop-table.tables.items
    refl c.len.ensures.fit k)
    (rw c.in_ok-copy_symbols.ensures at c.from_rows.ensures)

pub returns-clause-widths : goal.returns-clause-widths
returns-clause-widths c =
    let n = c.args.self.now.numbers in
    let k = all_left c.args.self.now.taken n.tables c.loop-table.table c.loop-table.tables.items c.tables-table-end.result
    c.tables-table-end.ensures c.loop-table.auto.table-end c.loop-table-test.false
    c.loop-table.invariant in
    told c.from_rows.result (new_widths n.symbols (shown_by n) c.args.self.now.taken n.tables c.loop-table.tables.items
    refl c.len.ensures.fit k)
    (rw c.in_ok-copy_symbols.ensures at c.from_rows.ensures)

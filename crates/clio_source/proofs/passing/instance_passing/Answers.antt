use Rattle.clio_source.specs.Kept.{row_passes}
use Rattle.clio_source.proofs.PassingRows.{all_kept, new_fit, new_passing, told}
use Rattle.clio_source.proofs.passing.instance_passing.Goals as goal

pub from_rows-requires-clause-fit : goal.from_rows-requires-clause-fit
from_rows-requires-clause-fit g c =
    let passes = g.M.Meaning.passes in
    let conditions = c.args.conditions.now in
    let n = c.numbers-numbers.result in
    let k = all_kept (row_passes passes conditions n.symbols) n.tables c.loop-table.table c.loop-table.tables.items c.tables-table-end.result
    c.tables-table-end.ensures c.loop-table.auto.table-end c.loop-table-test.false c.loop-table.invariant in
    rw c.in_ok-copy_symbols.ensures (new_fit passes conditions n.symbols c.args.rows.now n.tables c.loop-table.tables.items
    c.numbers-numbers.ensures.shown c.numbers-numbers.ensures.fit k)

pub returns : goal.returns
returns g c =
    let passes = g.M.Meaning.passes in
    let conditions = c.args.conditions.now in
    let n = c.numbers-numbers.result in
    let k = all_kept (row_passes passes conditions n.symbols) n.tables c.loop-table.table c.loop-table.tables.items c.tables-table-end.result
    c.tables-table-end.ensures c.loop-table.auto.table-end c.loop-table-test.false c.loop-table.invariant in
    told c.from_rows.result (new_passing passes conditions n.symbols c.args.rows.now n.tables c.loop-table.tables.items
    c.numbers-numbers.ensures.shown c.numbers-numbers.ensures.fit k)
    (rw c.in_ok-copy_symbols.ensures at c.from_rows.ensures)

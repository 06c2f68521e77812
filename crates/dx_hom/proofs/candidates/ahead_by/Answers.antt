use Rattle.std.proofs.Common.{◌<◌, arith, length}
use Rattle.dx_hom.proofs.Columns.{by_column}
use Rattle.dx_hom.proofs.candidates.ahead_by.Goals as goal

pub returns : goal.returns
returns c fixed =
    let within : c.args.column < length c.args.fact.now.row = omega (arith, c.requires.column, c.requires.fits.width) in
    by_column c.args.into.now fixed c.args.found.now.cells c.args.fact.now c.args.column c.args.next c.index-items-column.result
    c.in-Some.value.now within (rw c.items.ensures at c.index-items-column.is) c.in-Some.ensures c.with_columns.result
    (rw (c.from_ref.ensures.value, c.from_ref-2.ensures.value) at c.with_columns.ensures)

use Rattle.std.proofs.Common.{[]}
use Rattle.std.proofs.lemmas.List.{get_or_read}
use Rattle.dx_model.specs.declared.rules.Cell.TheVariants.{Lit}
use Rattle.dx_base.proofs.Members.{in_at}
use Rattle.dx_closing.proofs.Steps.{cells_more}
use Rattle.dx_closing.proofs.cells.chosen_cells.Goals as goal

pub bounds-row-column : goal.bounds-row-column
bounds-row-column c = c.requires _ (in_at c.args.columns.now c.loop-column.column-index 0 c.loop-column-test.true)

pub loop-column-preserved : goal.loop-column-preserved
loop-column-preserved c =
    let b = c.requires _ (in_at c.args.columns.now c.loop-column.column-index 0 c.loop-column-test.true) in
    rw (c.in_ok-push.ensures.items, c.in_ok-copy_cell.ensures)
    (cells_more c.args.row.now c.args.columns.now c.loop-column.column-index c.loop-column.chosen.items c.index-row-column.result c.loop-column-test.true c.loop-column.invariant (get_or_read c.args.row.now _ _ b c.index-row-column.is (Lit [])))

use Rattle.std.proofs.Common.{◌++◌, take}
use Rattle.dx_used.proofs.MarkFacts.{counted_all, counted_cell}
use Rattle.dx_used.proofs.mentions.add_cells.Goals as goal

pub loop-cell-preserved : goal.loop-cell-preserved
loop-cell-preserved c before h = counted_cell before c.args.cells.now c.loop-cell.cell-index c.cell-item.result c.add_cell.new.counts c.loop-cell-test.true c.cell-item.is (c.add_cell.ensures.counts (before ++ take c.loop-cell.cell-index c.args.cells.now) (c.loop-cell.invariant before h))

pub returns : goal.returns
returns c = record { counts = λ before h. counted_all (λ cs. cs) before c.args.cells.now c.loop-cell.cell-index c.loop-cell.counts c.loop-cell-test.false (c.loop-cell.invariant before h) }

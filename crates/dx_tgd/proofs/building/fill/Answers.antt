use Rattle.dx_base.proofs.Members.{item_in}
use Rattle.dx_tgd.proofs.building.fill.Goals as goal

pub number_at-requires : goal.number_at-requires
number_at-requires c = c.requires c.cell-item.result (item_in c.args.cells.now c.loop-cell.cell-index c.cell-item.result c.loop-cell-test.true c.cell-item.is)

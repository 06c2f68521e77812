use Rattle.std.proofs.Common.{ap, length}
use Rattle.dx_used.proofs.MarkFacts.{cells_more, all_cells}
use Rattle.dx_used.proofs.mentions.cells_in.Goals as goal

pub loop-atom-preserved : goal.loop-atom-preserved
loop-atom-preserved c =
    cells_more c.args.atoms.now c.loop-atom.atom-index c.atom-item.result c.loop-atom.count (length c.items.result.now) c.saturating_add-count.result
    c.loop-atom-test.true c.atom-item.is (ap length c.items.ensures) c.loop-atom.invariant c.saturating_add-count.ensures

pub returns : goal.returns
returns c = all_cells c.args.atoms.now c.loop-atom.atom-index c.loop-atom.count c.loop-atom-test.false c.loop-atom.invariant

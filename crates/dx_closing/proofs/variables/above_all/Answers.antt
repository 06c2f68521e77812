use Rattle.dx_closing.proofs.Numbers.{in_atoms, above_more_atoms}
use Rattle.dx_closing.proofs.variables.above_all.Goals as goal

pub above_row-above-requires : goal.above_row-above-requires
above_row-above-requires c =
    λ v m. c.requires v (in_atoms c.args.atoms.now c.loop-atom.atom-index c.atom-item.result c.loop-atom-test.true c.atom-item.is v (rw c.items.ensures at m))

pub loop-atom-preserved : goal.loop-atom-preserved
loop-atom-preserved c =
    above_more_atoms c.loop-atom.above c.above_row-above.result c.args.atoms.now c.loop-atom.atom-index _ c.atom-item.result c.loop-atom-test.true c.atom-item.is
    (rw c.items.ensures at c.above_row-above.ensures) c.loop-atom.invariant

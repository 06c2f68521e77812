use Rattle.dx_cover_fold.proofs.Numbers.{atoms_more}
use Rattle.dx_cover_fold.proofs.nulls.existential_count.Goals as goal

pub loop-atom-preserved : goal.loop-atom-preserved
loop-atom-preserved c =
    (atoms_more c.args.atoms.now c.loop-atom.atom-index c.atom-item.result c.loop-atom.next c.after-next.result c.loop-atom-test.true c.atom-item.is (rw c.items.ensures at c.after-next.ensures.number) c.loop-atom.invariant.0, c.after-next.ensures.low)

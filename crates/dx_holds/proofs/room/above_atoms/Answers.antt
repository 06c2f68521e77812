use Rattle.std.proofs.lemmas.List.{take_all}
use Rattle.dx_holds.proofs.Rooms.{above_more}
use Rattle.dx_holds.proofs.room.above_atoms.Goals as goal

pub loop-atom-init : goal.loop-atom-init
loop-atom-init c = λ v m. elim m [ ]

pub loop-atom-preserved : goal.loop-atom-preserved
loop-atom-preserved c =
    above_more c.args.atoms.now c.loop-atom.atom-index c.loop-atom.above _ c.atom-item.result c.items.result.now c.loop-atom-test.true c.atom-item.is c.items.ensures c.above_cells-above.ensures.start c.above_cells-above.ensures.above c.loop-atom.invariant

pub returns : goal.returns
returns c = rw (take_all c.loop-atom.atom-index c.args.atoms.now c.loop-atom-test.false) at c.loop-atom.invariant

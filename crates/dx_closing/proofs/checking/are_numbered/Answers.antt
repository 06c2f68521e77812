use Rattle.std.proofs.lemmas.Bool.{false≢true}
use Rattle.dx_closing.proofs.Appearance.{atoms_more, row_numbered_at}
use Rattle.dx_closing.proofs.checking.are_numbered.Goals as goal

pub returns-in-None : goal.returns-in-None
returns-in-None c = (
  (λ t. absurd (false≢true t)),
  (λ w. c.in-None.ensures.none.1 (rw c.items.ensures (row_numbered_at c.loop-atom.next c.loop-atom.atom-index c.args.atoms.now c.atom-item.result c.loop-atom-test.true c.atom-item.is c.loop-atom.invariant w))),
)

pub loop-atom-preserved : goal.loop-atom-preserved
loop-atom-preserved c =
    atoms_more c.loop-atom.next c.in-Some.after c.loop-atom.atom-index c.args.atoms.now c.atom-item.result c.loop-atom-test.true c.atom-item.is c.loop-atom.invariant
    (rw c.items.ensures at c.in-Some.ensures.some)

use Rattle.std.proofs.Common.{arith}
use Rattle.dx_base.proofs.Members.{item_in}
use Rattle.dx_solver.proofs.RowFacts.{image_of}
use Rattle.dx_solver.proofs.solving.is_hopeless.Goals as goal

pub returns-in-None : goal.returns-in-None
returns-in-None c = λ a k all.
    let atoms = c.args.question.now.atoms.now in
    let atom = c.index-atoms-place.result in
    let s = all atom (item_in atoms 0 atom (omega arith) c.index-atoms-place.is) in
    c.in-None.ensures a k s.0 (omega arith) s.1 (image_of c.args.question.now.numbers.now.tables c.args.question.now.taken.now a atom s)

pub next_candidate-requires : goal.next_candidate-requires
next_candidate-requires c =
    let atoms = c.args.question.now.atoms.now in
    let atom = c.index-atoms-place.result in
    c.requires atom (item_in atoms 0 atom (omega arith) c.index-atoms-place.is)

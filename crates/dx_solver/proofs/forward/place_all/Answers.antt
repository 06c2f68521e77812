use Rattle.std.proofs.Common.{ℕ, arith, subst, sym}
use Rattle.dx_base.proofs.Members.{item_in}
use Rattle.dx_solver.specs.Questions.{FitsAtom}
use Rattle.dx_solver.proofs.forward.place_all.Goals as goal

pub advance-requires : goal.advance-requires
advance-requires c =
    let atoms = c.args.question.now.atoms.now in
    let atom = c.index-atoms-place.result in
    subst (λ (n : ℕ). FitsAtom c.args.question.now.numbers.now.tables n atom) (sym c.loop.invariant)
    (c.requires atom (item_in atoms c.in-Some.place.now atom (omega arith) c.index-atoms-place.is))

use Rattle.std.proofs.Common.{arith, length}
use Rattle.dx_solver.proofs.TermFacts.{value_in, variable_below}
use Rattle.dx_solver.proofs.cutting.cut_at.Goals as goal

pub index-requires : goal.index-requires
index-requires c =
    let at = c.args.position.now in
    let k = variable_below c.args.question.now.numbers.now.tables (length c.args.domains.now.items) at.atom.now at.column at.variable
    c.requires.fits at.within at.stands in
    omega (arith, k, c.args.domains.now.ok.0)

pub narrow-requires : goal.narrow-requires
narrow-requires c =
    let at = c.args.position.now in
    variable_below c.args.question.now.numbers.now.tables (length c.args.domains.now.items) at.atom.now at.column at.variable
    c.requires.fits at.within at.stands

pub returns-clause-kept : goal.returns-clause-kept
returns-clause-kept c = λ a p k m i.
    let at = c.args.position.now in
    c.narrow.ensures.kept a k (c.of-domain.ensures.all (a at.variable) (value_in c.args.question.now.numbers.now.tables
    c.args.question.now.taken.now a at.atom.now p at.column at.variable c.args.places.now c.in_ok-numbers.numbers.items
    i at.within at.stands m c.in_ok-numbers.ensures))

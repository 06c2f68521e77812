use Rattle.std.proofs.Common.{◌<◌, arith, length}
use Rattle.dx_base.specs.Members.{Each}
use Rattle.dx_solver.specs.Domains.{choice_count, term_at}
use Rattle.dx_solver.specs.Questions.{HasImageRow}
use Rattle.dx_solver.proofs.SearchFacts.{ok_weaken, weaken}
use Rattle.dx_solver.proofs.TermFacts.{free_here, in_atoms, variable_below}
use Rattle.dx_solver.proofs.choosing.split.Goals as goal

pub returns-in-None : goal.returns-in-None
returns-in-None c =
    let atom = c.index-atoms-choice.result in
    let f = free_here c.args.question.now.atoms.now c.args.node.now.domains.items c.args.choice.atom c.args.choice.column atom
    c.requires.free c.index-atoms-choice.is in
    let one = c.in-None.ensures c.args.node.now.domains.items in
    absurd (omega (arith, one, f.1))

pub returns-in-Some : goal.returns-in-Some
returns-in-Some c =
    let T = c.args.question.now.numbers.now.tables in
    let out = c.args.question.now.taken.now in
    let atoms = c.args.question.now.atoms.now in
    let atom = c.in-Some.position.atom.now in
    let m = in_atoms atoms c.args.choice.atom c.index-atoms-choice.result atom c.requires.free.atom c.index-atoms-choice.is
    c.in-Some.ensures.0 in
    ok_weaken c.split_at.result (weaken (λ a. HasImageRow T out a atom) (λ a. Each atoms (HasImageRow T out a)) (λ a s. s atom m)
    c.args.node.now c.args.nodes.now.items c.split_at.new.nodes.items) c.split_at.ensures

pub split_at-requires-clause-fits : goal.split_at-requires-clause-fits
split_at-requires-clause-fits c =
    let atom = c.in-Some.position.atom.now in
    c.requires.fits atom (in_atoms c.args.question.now.atoms.now c.args.choice.atom c.index-atoms-choice.result atom
    c.requires.free.atom c.index-atoms-choice.is c.in-Some.ensures.0)

pub split_at-requires-clause-below : goal.split_at-requires-clause-below
split_at-requires-clause-below c =
    let at = c.in-Some.position in
    let m = in_atoms c.args.question.now.atoms.now c.args.choice.atom c.index-atoms-choice.result at.atom.now
    c.requires.free.atom c.index-atoms-choice.is c.in-Some.ensures.0 in
    variable_below c.args.question.now.numbers.now.tables (length c.args.node.now.domains.items) at.atom.now at.column at.variable
    (c.requires.fits at.atom.now m) at.within at.stands

pub split_at-requires-clause-many : goal.split_at-requires-clause-many
split_at-requires-clause-many c =
    let ds = c.args.node.now.domains.items in
    let at = c.in-Some.position in
    let f = free_here c.args.question.now.atoms.now ds c.args.choice.atom c.args.choice.column c.index-atoms-choice.result
    c.requires.free c.index-atoms-choice.is in
    let many : 1 < choice_count ds (term_at at.atom.now.terms at.column) = rw (c.in-Some.ensures.0, c.in-Some.ensures.1) f.1 in
    rw at.stands at many

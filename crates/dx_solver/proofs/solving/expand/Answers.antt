use Rattle.std.proofs.Common.{◌∙◌, ℕ, subst, sym}
use Rattle.std.proofs.lemmas.Bool.{false≢true}
use Rattle.dx_base.specs.Members.{Each}
use Rattle.dx_solver.specs.declared.node.Node.{Node}
use Rattle.dx_solver.specs.Questions.{FitsAtom, Solves, HasImageRow}
use Rattle.dx_solver.proofs.SearchFacts.{from_cut, nothing, ok_match}
use Rattle.dx_solver.proofs.solving.expand.Goals as goal

pub spread-requires : goal.spread-requires
spread-requires c = λ atom m.
    subst (λ (n : ℕ). FitsAtom c.args.question.now.numbers.now.tables n atom) (sym c.requires.many) (c.requires.fits atom m)

pub returns-then-not-alive-clause-exact : goal.returns-then-not-alive-clause-exact
returns-then-not-alive-clause-exact c =
    let P = Solves c.args.question.now.numbers.now.tables c.args.question.now.taken.now c.args.question.now.atoms.now
    c.args.question.now.known.now in
    nothing P c.args.node c.args.nodes.now.items
    (λ a s k. false≢true (sym c.if-not-alive.true ∙ (c.in_ok-alive.ensures.kept a k s.stands).0))

pub returns-in-None-clause-exact : goal.returns-in-None-clause-exact
returns-in-None-clause-exact c =
    let P = Solves c.args.question.now.numbers.now.tables c.args.question.now.taken.now c.args.question.now.atoms.now
    c.args.question.now.known.now in
    ok_match _ c.answer_at.result (λ none. nothing P c.args.node c.args.nodes.now.items (λ a s k.
    none c.in-None.ensures a (rw c.as_slice-left.ensures.value (c.in_ok-alive.ensures.kept a k s.stands).1) s))
    c.answer_at.ensures.exact

pub returns-clause-exact : goal.returns-clause-exact
returns-clause-exact c =
    let T = c.args.question.now.numbers.now.tables in
    let out = c.args.question.now.taken.now in
    let atoms = c.args.question.now.atoms.now in
    let cut : Node = record { domains = c.spread.new.domains; changed = c.args.node.changed } in
    from_cut (Solves T out atoms c.args.question.now.known.now) (λ a. Each atoms (HasImageRow T out a)) (λ a s. s.stands) c.args.node cut
    (λ a s k. (c.in_ok-alive.ensures.kept a k s.stands).1) c.in_ok-alive.ensures.many c.in_ok-alive.ensures.lighter
    c.args.nodes.now.items c.split.new.nodes.items c.in_ok-split-in-Some.ensures

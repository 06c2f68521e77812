use Rattle.std.proofs.Common.{◌∙◌, sym}
use Rattle.std.proofs.lemmas.Bool.{false≢true}
use Rattle.dx_solver.proofs.TermFacts.{none_left}
use Rattle.dx_solver.proofs.judging.answer_at.Goals as goal

pub returns-clause-exact : goal.returns-clause-exact
returns-clause-exact c =
    let all = rw c.deref.ensures.value at c.in_ok-is_answer.ensures in
    λ bound a k. none_left c.args.question.now.numbers.now.tables c.args.question.now.taken.now c.args.question.now.atoms.now
    c.args.question.now.known.now c.args.domains.now c.in_ok-xs.xs.items c.in_ok-xs.ensures.left c.requires.fits bound
    (λ s. absurd (false≢true (sym c.if-is_answer.false ∙ all.1 s))) a k

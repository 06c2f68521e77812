use Rattle.std.proofs.Common.{◌∙◌}
use Rattle.std.proofs.lemmas.Bool.{false≢true}
use Rattle.dx_solver.specs.Questions.{answered}
use Rattle.dx_solver.proofs.RowFacts.{none_stands}
use Rattle.dx_solver.proofs.judging.stands.Goals as goal

pub returns-in-None : goal.returns-in-None
returns-in-None c =
    let T = c.args.question.now.numbers.now.tables in
    let out = c.args.question.now.taken.now in
    let row = c.as_slice.result.now in
    let e = rw c.items.ensures at (c.as_slice.ensures.value ∙ c.in_ok-row.ensures) in (
      (λ t. absurd (false≢true t)),
      (λ s. absurd (none_stands T out (answered c.args.xs.now) c.args.atom.now row e c.in-None.ensures s)),
    )

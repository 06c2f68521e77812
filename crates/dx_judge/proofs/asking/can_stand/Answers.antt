use Rattle.std.proofs.Common.{◌∙◌, Vec, Global, ℕ}
use Rattle.dx_solver.specs.Questions.{answered}
use Rattle.dx_judge.proofs.Asked.{answer_stands}
use Rattle.dx_judge.proofs.asking.can_stand.Goals as goal

pub returns : goal.returns
returns c =
    answer_stands (λ (xs : Vec ℕ Global). answered xs.items) c.args.numbers.now.tables _ c.args.atoms.now _ c.args.count c.in_ok-answer.answer c.is_some.result c.none-taken.ensures (c.deref.ensures.value ∙ c.in_ok-known.ensures) c.in_ok-answer.ensures.exact c.is_some.ensures

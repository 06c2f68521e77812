use Rattle.std.proofs.lemmas.Result.{err_from_is_err_and}
use Rattle.dx_funcs.specs.Judging.{tested}
use Rattle.dx_funcs.specs.Serving.{offered}
use Rattle.clio_steps.specs.Steps.{Program, program}
use Rattle.clio_answer.proofs.AnswerRuns.{plan_made, plan_none, plan_stops}
use Rattle.clio_answer.proofs.answering.answer_plan.Goals as goal

pub returns-in_err-posed : goal.returns-in_err-posed
returns-in_err-posed g c =
    let P : Program = program (offered c.args.host.now) (tested c.args.tests.now) g.M.Meaning.apply g.M.Meaning.passes in
    let p = err_from_is_err_and c.from_residual.result c.from_residual.ensures.1 in
    rw (p.1, p.2) (plan_stops P c.in_err-posed.field-0.0 _ _ c.in_err-posed.ensures)

pub returns-in_err-plan_answers : goal.returns-in_err-plan_answers
returns-in_err-plan_answers g c =
    let P : Program = program (offered c.args.host.now) (tested c.args.tests.now) g.M.Meaning.apply g.M.Meaning.passes in
    let p = err_from_is_err_and c.from_residual-in_err-plan_answers.result c.from_residual-in_err-plan_answers.ensures.1 in
    rw (p.1, p.2) (plan_none P (c.in_ok-posed.posed, c.in_ok-posed.answers) _ _ c.in_ok-posed.ensures)

pub returns : goal.returns
returns g c =
    let P : Program = program (offered c.args.host.now) (tested c.args.tests.now) g.M.Meaning.apply g.M.Meaning.passes in
    plan_made P (c.in_ok-posed.posed, c.in_ok-posed.answers) _ _ _ (c.in_ok-plan_answers.ensures c.in_ok-posed.posed.0) c.in_ok-posed.ensures

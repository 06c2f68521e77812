use Rattle.std.proofs.lemmas.Result.{err_from_is_err_and}
use Rattle.dx_funcs.specs.Judging.{tested}
use Rattle.dx_funcs.specs.Serving.{offered}
use Rattle.dx_stages.specs.Ending.{planned_of}
use Rattle.clio_steps.specs.Steps.{Program, program}
use Rattle.clio_judge.proofs.VerdictRuns.{plan_none, plan_stops, planned_verdict}
use Rattle.clio_judge.proofs.judging.judge_plan.Goals as goal

pub returns-in_err-mapping : goal.returns-in_err-mapping
returns-in_err-mapping g c =
    let P : Program = program (offered c.args.host.now) (tested c.args.tests.now) g.M.Meaning.apply g.M.Meaning.passes in
    let p = err_from_is_err_and c.from_residual.result c.from_residual.ensures.1 in
    rw (p.1, p.2) (plan_stops P c.in_err-mapping.field-0.0 _ _ c.in_err-mapping.ensures)

pub returns-in_err-plan_judged : goal.returns-in_err-plan_judged
returns-in_err-plan_judged g c =
    let P : Program = program (offered c.args.host.now) (tested c.args.tests.now) g.M.Meaning.apply g.M.Meaning.passes in
    let p = err_from_is_err_and c.from_residual-in_err-plan_judged.result c.from_residual-in_err-plan_judged.ensures.1 in
    rw (p.1, p.2) (plan_none P (c.in_ok-mapping.mapping, c.in_ok-mapping.verdict) _ _ c.in_ok-mapping.ensures)

pub returns : goal.returns
returns g c =
    let P : Program = program (offered c.args.host.now) (tested c.args.tests.now) g.M.Meaning.apply g.M.Meaning.passes in
    planned_verdict P (c.in_ok-mapping.mapping, c.in_ok-mapping.verdict) (planned_of c.in_ok-plan_judged.field-0) _ _ c.in_ok-plan_judged.ensures c.in_ok-mapping.ensures

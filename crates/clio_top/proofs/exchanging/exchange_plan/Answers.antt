use Rattle.std.proofs.lemmas.Result.{err_from_is_err_and}
use Rattle.dx_funcs.specs.Judging.{tested}
use Rattle.dx_funcs.specs.Serving.{offered}
use Rattle.dx_stages.specs.Ending.{planned_of}
use Rattle.dx_stages.proofs.Running.{ran_become}
use Rattle.clio_top.specs.Running.{IsPlanOf}
use Rattle.clio_steps.specs.Steps.{Program, exchanges, program}
use Rattle.clio_steps.proofs.Plans.{ran_become_none, ran_become_stop}
use Rattle.clio_steps.proofs.Decided.{files_ready, made, texts_ready}
use Rattle.clio_top.proofs.exchanging.exchange_plan.Goals as goal

pub returns-in_err-mapping : goal.returns-in_err-mapping
returns-in_err-mapping g c =
    let P : Program = program (offered c.args.host.now) (tested c.args.tests.now) g.M.Meaning.apply g.M.Meaning.passes in
    let p = err_from_is_err_and c.from_residual.result c.from_residual.ensures.1 in
    rw (p.1, p.2)
    (ran_become_stop (λ u q plan. IsPlanOf P.list c.args.mode c.args.nested q.0 q.1 plan) (exchanges P c.args.mode) tt c.in_err-mapping.field-0.0 _ _
    c.in_err-mapping.ensures)

pub plan_exchange-requires-clause-texts : goal.plan_exchange-requires-clause-texts
plan_exchange-requires-clause-texts g c =
    let P : Program = program (offered c.args.host.now) (tested c.args.tests.now) g.M.Meaning.apply g.M.Meaning.passes in
    let M = c.in_ok-mapping.mapping in
    let e = c.in_ok-mapping.exchange in
    texts_ready P c.args.mode M e (made P c.args.mode (M, e) _ _ c.in_ok-mapping.ensures)

pub plan_exchange-requires-clause-fits : goal.plan_exchange-requires-clause-fits
plan_exchange-requires-clause-fits g c =
    let P : Program = program (offered c.args.host.now) (tested c.args.tests.now) g.M.Meaning.apply g.M.Meaning.passes in
    let M = c.in_ok-mapping.mapping in
    let e = c.in_ok-mapping.exchange in
    files_ready P c.args.mode M e (made P c.args.mode (M, e) _ _ c.in_ok-mapping.ensures)

pub returns-in_err-plan_exchange : goal.returns-in_err-plan_exchange
returns-in_err-plan_exchange g c =
    let P : Program = program (offered c.args.host.now) (tested c.args.tests.now) g.M.Meaning.apply g.M.Meaning.passes in
    let p = err_from_is_err_and c.from_residual-in_err-plan_exchange.result c.from_residual-in_err-plan_exchange.ensures.1 in
    rw (p.1, p.2)
    (ran_become_none (λ u q plan. IsPlanOf P.list c.args.mode c.args.nested q.0 q.1 plan) (exchanges P c.args.mode) tt
    (c.in_ok-mapping.mapping, c.in_ok-mapping.exchange) _ _ c.in_ok-mapping.ensures)

pub returns : goal.returns
returns g c =
    let P : Program = program (offered c.args.host.now) (tested c.args.tests.now) g.M.Meaning.apply g.M.Meaning.passes in
    ran_become (λ u q plan. IsPlanOf P.list c.args.mode c.args.nested q.0 q.1 plan) (exchanges P c.args.mode) tt
    (c.in_ok-mapping.mapping, c.in_ok-mapping.exchange) (planned_of c.in_ok-plan_exchange.field-0) _ _ c.in_ok-plan_exchange.ensures
    c.in_ok-mapping.ensures

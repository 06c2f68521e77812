use Rattle.std.proofs.Common.{refl, ap}
use Rattle.std.proofs.lemmas.Result.{err_from_is_err_and}
use Rattle.std.specs.FinMap.{from_entries}
use Rattle.dx_funcs.specs.Judging.{tested}
use Rattle.dx_funcs.specs.Serving.{offered}
use Rattle.dx_stages.specs.Ending.{planned_of}
use Rattle.clio_steps.specs.Steps.{Program, program}
use Rattle.clio_top.proofs.Demos.{demo_made, demo_stops}
use Rattle.clio_steps.proofs.Decided.{made, widths_ready}
use Rattle.clio_top.proofs.demo.demo_plan.Goals as goal

pub returns-in_err-mapping : goal.returns-in_err-mapping
returns-in_err-mapping g c =
    let P : Program = program (offered c.args.host.now) (tested c.args.tests.now) g.M.Meaning.apply g.M.Meaning.passes in
    let p = err_from_is_err_and c.from_residual-in_err-mapping.result c.from_residual-in_err-mapping.ensures.1 in
    rw (p.1, p.2)
    (demo_stops P c.args.number c.args.mode _ c.in_err-mapping.field-0.0 _ _ refl (ap from_entries c.in_ok-demo_files.ensures) refl refl
    c.in_err-mapping.ensures)

pub plan_demo-requires : goal.plan_demo-requires
plan_demo-requires g c =
    let P : Program = program (offered c.args.host.now) (tested c.args.tests.now) g.M.Meaning.apply g.M.Meaning.passes in
    let M = c.in_ok-mapping.mapping in
    let e = c.in_ok-mapping.exchange in
    widths_ready P c.args.mode M e (made P c.args.mode (M, e) _ _ c.in_ok-mapping.ensures)

pub returns : goal.returns
returns g c =
    let P : Program = program (offered c.args.host.now) (tested c.args.tests.now) g.M.Meaning.apply g.M.Meaning.passes in
    demo_made P c.args.number c.args.mode _ (c.in_ok-mapping.mapping, c.in_ok-mapping.exchange) (planned_of c.in_ok-plan_demo.field-0) _ _ refl
    (ap from_entries c.in_ok-demo_files.ensures) refl refl c.in_ok-mapping.ensures c.in_ok-plan_demo.ensures

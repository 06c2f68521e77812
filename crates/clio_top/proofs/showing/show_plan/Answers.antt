use Rattle.std.proofs.lemmas.Result.{err_from_is_err_and}
use Rattle.dx_funcs.specs.Judging.{tested}
use Rattle.dx_funcs.specs.Serving.{offered}
use Rattle.dx_stages.specs.Ending.{planned_of}
use Rattle.clio_steps.specs.declared.texts.Side.TheVariants.{First}
use Rattle.clio_steps.specs.Steps.{Program, program}
use Rattle.clio_steps.proofs.Mappings.{mapping_fits}
use Rattle.clio_top.proofs.Plans.{show_stops, shown, shown_none}
use Rattle.clio_steps.proofs.Plans.{texts_fit}
use Rattle.clio_top.proofs.showing.show_plan.Goals as goal

pub returns-in_err-mapping : goal.returns-in_err-mapping
returns-in_err-mapping g c =
    let P : Program = program (offered c.args.host.now) (tested c.args.tests.now) g.M.Meaning.apply g.M.Meaning.passes in
    let p = err_from_is_err_and c.from_residual.result c.from_residual.ensures.1 in
    rw (p.1, p.2) (show_stops P c.args.mode c.in_err-mapping.field-0.0 _ _ c.in_err-mapping.ensures)

pub plan_shown-requires : goal.plan_shown-requires
plan_shown-requires g c =
    let P : Program = program (offered c.args.host.now) (tested c.args.tests.now) g.M.Meaning.apply g.M.Meaning.passes in
    texts_fit P c.in_ok-mapping.mapping (mapping_fits P First c.in_ok-mapping.mapping _ _ c.in_ok-mapping.ensures)

pub returns-in_err-plan_shown : goal.returns-in_err-plan_shown
returns-in_err-plan_shown g c =
    let P : Program = program (offered c.args.host.now) (tested c.args.tests.now) g.M.Meaning.apply g.M.Meaning.passes in
    let p = err_from_is_err_and c.from_residual-in_err-plan_shown.result c.from_residual-in_err-plan_shown.ensures.1 in
    rw (p.1, p.2) (shown_none P c.args.mode c.in_ok-mapping.mapping _ _ c.in_ok-mapping.ensures)

pub returns : goal.returns
returns g c =
    let P : Program = program (offered c.args.host.now) (tested c.args.tests.now) g.M.Meaning.apply g.M.Meaning.passes in
    shown P c.args.mode c.in_ok-mapping.mapping (planned_of c.in_ok-plan_shown.field-0) _ _ c.in_ok-plan_shown.ensures c.in_ok-mapping.ensures

use Rattle.std.proofs.Common.{◌∙◌, ap, Err}
use Rattle.dx_funcs.specs.Judging.{tested}
use Rattle.dx_funcs.specs.Serving.{offered}
use Rattle.dx_stages.proofs.Running.{answer_refuses}
use Rattle.clio_accept.specs.declared.fault.AcceptFault.TheVariants as faults
use Rattle.clio_accept.specs.Accepting.{accepting}
use Rattle.clio_ending.specs.declared.ending.Refusal.TheVariants as refusals
use Rattle.clio_steps.specs.Steps.{side_refusal}
use Rattle.clio_steps.proofs.Mappings.{limit_said}
use Rattle.clio_steps.proofs.texts.accept_text.Goals as goal

pub returns-in-Err-Mapping : goal.returns-in-Err-Mapping
returns-in-Err-Mapping g c =
    let fault = c.in-Err-Mapping.fault in
    answer_refuses faults.Memory (side_refusal c.args.side) (accepting (offered c.args.host.now) (tested c.args.tests.now)) c.args.text.now c.accept.result (faults.Mapping fault) c.refusal.result
    (c.in-Err-Mapping.is ∙ ap Err c.in-Err-Mapping.field-0-is) (λ e. cc) c.refusal.ensures c.accept.ensures

pub returns-in-Err-Limit : goal.returns-in-Err-Limit
returns-in-Err-Limit g c =
    let limit = c.in-Err-Limit.limit in
    answer_refuses faults.Memory (side_refusal c.args.side) (accepting (offered c.args.host.now) (tested c.args.tests.now)) c.args.text.now c.accept.result (faults.Limit limit) (refusals.Limit limit)
    (c.in-Err-Limit.is ∙ ap Err c.in-Err-Limit.field-0-is) (λ e. cc) (limit_said c.args.side limit) c.accept.ensures

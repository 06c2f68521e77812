use Rattle.std.proofs.Common.{◌∙◌, refl, sym, ap, Some, Err}
use Rattle.dx_exchange.specs.declared.fault.ExFault.TheVariants as faults
use Rattle.dx_exchange.specs.Exchanging.{exchanging}
use Rattle.dx_stages.proofs.Running.{answer_passes, answer_refuses}
use Rattle.clio_ending.specs.declared.ending.Refusal.TheVariants as refusals
use Rattle.clio_ending.specs.Ending.{exchange_refusal}
use Rattle.clio_steps.specs.Steps.{exchange_input}
use Rattle.clio_steps.proofs.target.exchange_rows.Goals as goal

pub exchange-requires-clause-fits : goal.exchange-requires-clause-fits
exchange-requires-clause-fits g c =
    rw c.items-rules.ensures c.requires.fits

pub returns-in_ok-named_clash-in-Err-Clash : goal.returns-in_ok-named_clash-in-Err-Clash
returns-in_ok-named_clash-in-Err-Clash g c =
    let clash = c.in-Err-Clash.clash in
    answer_refuses faults.Memory (exchange_refusal c.args.mapping.now.target) (exchanging g.M.Meaning.apply) (exchange_input c.args.mode (c.args.mapping.now, c.args.rows.now)) c.exchange.result (faults.Clash clash) c.in_ok-named_clash-in-Err-Clash.field-0
    (c.in-Err-Clash.is ∙ ap Err c.in-Err-Clash.field-0-is) (λ e. cc) (ap Some (sym c.in_ok-named_clash-in-Err-Clash.ensures)) (rw c.items-rules.ensures at c.exchange.ensures)

pub returns-in-Err-Limit : goal.returns-in-Err-Limit
returns-in-Err-Limit g c =
    let limit = c.in-Err-Limit.limit in
    answer_refuses faults.Memory (exchange_refusal c.args.mapping.now.target) (exchanging g.M.Meaning.apply) (exchange_input c.args.mode (c.args.mapping.now, c.args.rows.now)) c.exchange.result (faults.Limit limit) (refusals.Limit limit)
    (c.in-Err-Limit.is ∙ ap Err c.in-Err-Limit.field-0-is) (λ e. cc) refl (rw c.items-rules.ensures at c.exchange.ensures)

pub returns-in-Ok : goal.returns-in-Ok
returns-in-Ok g c =
    answer_passes faults.Memory (exchange_refusal c.args.mapping.now.target) (exchanging g.M.Meaning.apply) (exchange_input c.args.mode (c.args.mapping.now, c.args.rows.now)) c.exchange.result c.in-Ok.exchange
    c.in-Ok.is (rw c.items-rules.ensures at c.exchange.ensures)

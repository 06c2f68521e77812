use Rattle.std.proofs.Common.{◌∙◌, refl, ap, Err}
use Rattle.dx_judge.specs.declared.fault.JudgeFault.TheVariants as faults
use Rattle.dx_judge.specs.Verdicts.{judging}
use Rattle.dx_stages.proofs.Running.{answer_passes, answer_refuses}
use Rattle.clio_ending.specs.declared.ending.Refusal.TheVariants as refusals
use Rattle.clio_judge.specs.Judging.{judge_refusal, judged}
use Rattle.clio_judge.proofs.judging.judge_rows.Goals as goal

pub judge-requires-clause-fits : goal.judge-requires-clause-fits
judge-requires-clause-fits g c = rw c.items-rules.ensures c.requires.fits

pub judge-requires-clause-given : goal.judge-requires-clause-given
judge-requires-clause-given g c = c.requires.tables.given_fits

pub returns-in-Err-Limit : goal.returns-in-Err-Limit
returns-in-Err-Limit g c =
    let limit = c.in-Err-Limit.limit in
    answer_refuses faults.Memory judge_refusal (judging g.M.Meaning.apply) (judged ((c.args.mapping.now, c.args.rows.now), c.args.given.now)) c.judge.result
    (faults.Limit limit) (refusals.Limit limit) (c.in-Err-Limit.is ∙ ap Err c.in-Err-Limit.field-0-is) (λ e. cc) refl (rw c.items-rules.ensures at c.judge.ensures)

pub returns-in-Ok : goal.returns-in-Ok
returns-in-Ok g c =
    answer_passes faults.Memory judge_refusal (judging g.M.Meaning.apply) (judged ((c.args.mapping.now, c.args.rows.now), c.args.given.now)) c.judge.result
    c.in-Ok.verdict c.in-Ok.is (rw c.items-rules.ensures at c.judge.ensures)

-- A verdict is never refused with `Usage`.
use Rattle.std.proofs.Common.{◌≡◌, inl, inr, Some}
use Rattle.dx_judge.specs.declared.fault.JudgeFault.{JudgeFault}
use Rattle.dx_judge.specs.declared.fault.JudgeFault.TheVariants as judge_faults
use Rattle.dx_stages.specs.Worlds.{World}
use Rattle.clio_ending.specs.declared.ending.Refusal.TheVariants as refusals
use Rattle.clio_steps.specs.declared.texts.Side.TheVariants.{First}
use Rattle.clio_steps.specs.Steps.{Program}
use Rattle.clio_judge.specs.Judging.{judge_refusal, verdicts}
use Rattle.clio_steps.proofs.Reasons.{source_rows_kept, text_never}

judge_kept : (k : JudgeFault) → ¬ (judge_refusal k ≡ Some refusals.Usage)
judge_kept (judge_faults.Limit limit) is = cc
judge_kept judge_faults.Memory is = cc

pub judge_never : (P : Program) (c : World) → ¬ ((verdicts P).refuses c (tt {0}) refusals.Usage)
judge_never P c (inl m) = text_never P First c m
judge_never P c (inr (M, m, inl (k, refused, is))) = source_rows_kept k is
judge_never P c (inr (M, m, inr (p, x, inl (k, refused, is)))) = source_rows_kept k is
judge_never P c (inr (M, m, inr (p, x, inr (d, y, (k, none, is))))) = judge_kept k is

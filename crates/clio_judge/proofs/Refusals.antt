-- A verdict is never refused with a clash.
use Rattle.std.proofs.Common.{◌≡◌, sym, ◌∙◌, ap, inl, inr, Some, false}
use Rattle.std.proofs.lemmas.Option.{none-some, same_Some}
use Rattle.dx_judge.specs.declared.fault.JudgeFault.{JudgeFault}
use Rattle.dx_judge.specs.declared.fault.JudgeFault.TheVariants as judge_faults
use Rattle.dx_stages.specs.Worlds.{World}
use Rattle.clio_ending.specs.declared.ending.Refusal.{Refusal}
use Rattle.clio_ending.specs.declared.ending.Refusal.TheVariants as refusals
use Rattle.clio_steps.specs.declared.texts.Side.TheVariants.{First}
use Rattle.clio_steps.specs.Steps.{Program}
use Rattle.clio_judge.specs.Judging.{judge_refusal, verdicts}
use Rattle.clio_steps.proofs.Clashes.{is_clash, of_source, text_never}

of_judge : (k : JudgeFault) (e : Refusal) → judge_refusal k ≡ Some e → is_clash e ≡ false
unfolding is_clash
of_judge (judge_faults.Limit limit) e is = ap is_clash (sym (same_Some (refusals.Limit limit) e is))
of_judge judge_faults.Memory e is = absurd (none-some e is)

pub judge_never : (P : Program) (c : World) (e : Refusal) → (verdicts P).refuses c (tt {0}) e → is_clash e ≡ false
judge_never P c e (inl m) = text_never P First c e m
judge_never P c e (inr (M, m, inl (k, refused, is))) = ap is_clash is ∙ of_source k
judge_never P c e (inr (M, m, inr (p, x, inl (k, refused, is)))) = ap is_clash is ∙ of_source k
judge_never P c e (inr (M, m, inr (p, x, inr (d, y, (k, none, is))))) = of_judge k e is

-- A comparison is never refused with `Usage`.
use Rattle.std.proofs.Common.{◌≡◌, ◌⊎◌, inl, inr}
use Rattle.dx_base.specs.declared.file.Limit.{Limit}
use Rattle.dx_stages.specs.Worlds.{World}
use Rattle.clio_ending.specs.declared.faults.OtherFault.{OtherFault}
use Rattle.clio_ending.specs.declared.ending.Refusal.TheVariants as refusals
use Rattle.clio_steps.specs.declared.texts.Side.TheVariants.{First, Second}
use Rattle.clio_steps.specs.Steps.{Program}
use Rattle.clio_compare.specs.Comparing.{comparisons}
use Rattle.clio_compare.proofs.Pairs.{refused_pair}
use Rattle.clio_steps.proofs.Reasons.{text_never}

pair_kept : ¬ (((l : Limit) × (refusals.Usage ≡ refusals.Limit l)) ⊎ ((f : OtherFault) × (refusals.Usage ≡ refusals.Other f)))
pair_kept (inl (l, is)) = cc
pair_kept (inr (f, is)) = cc

pub compare_never : (P : Program) (c : World) → ¬ ((comparisons P).refuses c (tt {0}) refusals.Usage)
compare_never P c (inl m) = text_never P First c m
compare_never P c (inr (M, m, inl o)) = text_never P Second c o
compare_never P c (inr (M, m, inr (p, o, r))) = pair_kept (refused_pair p c refusals.Usage r)

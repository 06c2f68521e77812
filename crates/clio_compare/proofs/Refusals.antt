-- A comparison is never refused with a clash.
use Rattle.std.proofs.Common.{◌≡◌, ◌⊎◌, ap, inl, inr, false}
use Rattle.dx_base.specs.declared.file.Limit.{Limit}
use Rattle.dx_stages.specs.Worlds.{World}
use Rattle.clio_ending.specs.declared.faults.OtherFault.{OtherFault}
use Rattle.clio_ending.specs.declared.ending.Refusal.{Refusal}
use Rattle.clio_ending.specs.declared.ending.Refusal.TheVariants as refusals
use Rattle.clio_steps.specs.declared.texts.Side.TheVariants.{First, Second}
use Rattle.clio_steps.specs.Steps.{Program}
use Rattle.clio_compare.specs.Comparing.{comparisons}
use Rattle.clio_compare.proofs.Pairs.{refused_pair}
use Rattle.clio_steps.proofs.Clashes.{is_clash, text_never}

-- of a limit, and of what is wrong with two mappings
pair_refused : (e : Refusal) → ((l : Limit) × (e ≡ refusals.Limit l)) ⊎ ((f : OtherFault) × (e ≡ refusals.Other f)) → is_clash e ≡ false
unfolding is_clash
pair_refused e (inl (l, is)) = ap is_clash is
pair_refused e (inr (f, is)) = ap is_clash is

pub compare_never : (P : Program) (c : World) (e : Refusal) → (comparisons P).refuses c (tt {0}) e → is_clash e ≡ false
compare_never P c e (inl m) = text_never P First c e m
compare_never P c e (inr (M, m, inl o)) = text_never P Second c e o
compare_never P c e (inr (M, m, inr (p, o, r))) = pair_refused e (refused_pair p c e r)

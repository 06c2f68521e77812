-- What a run leaves that is not done.
use Rattle.std.proofs.Common.{ℕ, List, inl, inr}
use Rattle.dx_ports.specs.States.{OutputState}
use Rattle.dx_stages.specs.declared.plan.Ended.{Ended}
use Rattle.dx_stages.specs.declared.plan.Ended.TheVariants as endeds
use Rattle.dx_stages.specs.Ending.{Ends, PlanContent, WroteFirst, WroteLess}
use Rattle.dx_stages.specs.Worlds.{World}
use Rattle.clio_ending.specs.declared.ending.Done.{Done}
use Rattle.clio_ending.specs.declared.ending.Refusal.{Refusal}
use Rattle.clio_ending.specs.declared.ending.Refusal.TheVariants as refusals
use Rattle.clio_ending.specs.Ending.{ending_of}
use Rattle.clio_top.specs.Commands.{run_stages}
use Rattle.clio_top.specs.Leaving.{Leaves, WroteFirstAsked, WroteLessAsked}
use Rattle.clio_steps.specs.Outcomes.{wrote_first, wrote_less}
use Rattle.clio_steps.specs.Steps.{Program}
use Rattle.clio_top.proofs.Asked.{plan_asked}

first_asked : (P : Program) (c : World) (words : List (List ℕ)) (p : PlanContent Done) (count : ℕ) (before after : OutputState) → (run_stages P).passes c words p
    → WroteFirst p.files p.text count before after → WroteFirstAsked P c words count before after
first_asked P c words p count before after passed wrote = (p.done, plan_asked P c words p (wrote_first count before after) passed wrote)

less_asked : (P : Program) (c : World) (words : List (List ℕ)) (p : PlanContent Done) (count : ℕ) (before after : OutputState) → (run_stages P).passes c words p
    → WroteLess p.files p.text count before after → WroteLessAsked P c words count before after
less_asked P c words p count before after passed wrote = (p.done, plan_asked P c words p (wrote_less count before after) passed wrote)

pub leaves : (P : Program) (c : World) (words : List (List ℕ)) (before after : OutputState) (e : Ended Done Refusal)
    → Ends (run_stages P) c words before after e → Leaves P c words before after (ending_of e)
leaves P c words before after (endeds.Done d) h = tt
leaves P c words before after (endeds.Refused refusals.Usage) h = h.1
leaves P c words before after (endeds.Refused (refusals.Clash k table key column)) h = h.1
leaves P c words before after (endeds.Refused (refusals.Mapping fault)) h = h.1
leaves P c words before after (endeds.Refused (refusals.Rows file fault)) h = h.1
leaves P c words before after (endeds.Refused (refusals.Limit limit)) h = h.1
leaves P c words before after (endeds.Refused (refusals.Query fault)) h = h.1
leaves P c words before after (endeds.Refused (refusals.Other fault)) h = h.1
leaves P c words before after (endeds.ReadFault n) h = h.1
leaves P c words before after (endeds.WriteFault count) (p, passed, wrote) = first_asked P c words p count before after passed wrote
leaves P c words before after endeds.Memory (inl same) = inl same
leaves P c words before after endeds.Memory (inr (p, passed, (count, wrote))) = inr (count, less_asked P c words p count before after passed wrote)

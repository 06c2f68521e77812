-- There is one reason to refuse a run, or a plan, and never both.
use Rattle.std.proofs.Common.{ℕ, refl}
use Rattle.std.specs.Prelude.{Bool}
use Rattle.dx_instance.specs.Stored.{facts}
use Rattle.dx_schema.proofs.Valid.{are_tables}
use Rattle.dx_exchange.specs.declared.result.Exchange.{Exchange}
use Rattle.dx_exchange.specs.declared.mode.Mode.{Mode}
use Rattle.dx_stages.specs.Worlds.{World}
use Rattle.dx_stages.specs.Stages.{Stage}
use Rattle.dx_stages.specs.Laws.{IsDecided}
use Rattle.dx_stages.specs.Ending.{PlanContent}
use Rattle.dx_stages.proofs.Decided.{Any, into_decided, become_decided}
use Rattle.clio_accept.specs.declared.mapping.Mapping.{Mapping}
use Rattle.clio_files.proofs.Existing.{files_exist, nulls_exist}
use Rattle.clio_steps.specs.declared.texts.Side.TheVariants.{First}
use Rattle.clio_ending.specs.declared.ending.Done.{Done}
use Rattle.clio_ending.specs.Ending.{AreAlike}
use Rattle.clio_top.specs.Running.{IsPlanOf, exchange_stages, show_stages, shown_plan}
use Rattle.clio_steps.specs.Steps.{Program, exchanges, mapping_stages}
use Rattle.clio_top.specs.Demo.{IsDemoPlan, demo_stages, demo_world, in_world}
use Rattle.clio_steps.proofs.Plans.{facts_wide, files_fit}
use Rattle.clio_steps.proofs.Decided.{text_decided, exchanges_decided, IsMade, made_in}

pub plan_exists : (P : Program) (mode : Mode) (nested : Bool) (M : Mapping) (e : Exchange) → IsMade P mode M e
    → (plan : PlanContent Done) × IsPlanOf P.list mode nested M e plan
plan_exists P mode nested M e h =
    let fs = files_exist M.source M.target P.list mode nested M.rules e (files_fit P mode M h.rows e h.fits h.exchange)
    (are_tables M.target h.fits.target.form) (facts_wide P mode M h.rows e h.fits h.exchange) in
    (_, (fs.0, fs.1, refl))

pub exchange_decided : (P : Program) (mode : Mode) (nested : Bool) → IsDecided AreAlike Any (exchange_stages P mode nested)
exchange_decided P mode nested =
    become_decided AreAlike Any (λ u q plan. IsPlanOf P.list mode nested q.0 q.1 plan) (exchanges P mode)
    (λ c u q g x. plan_exists P mode nested q.0 q.1 (made_in P mode c q x)) (exchanges_decided P mode)

-- ---- a demo

-- a stage in a given world is decided if it is
inside_decided : {E A B : Type 0} (Alike : E → E → Type 0) (Given : A → Type 0) (w : World) (s : Stage E A B) → IsDecided Alike Given s
    → IsDecided Alike Given (in_world w s)
inside_decided Alike Given w s d = record {
  one = λ c a e f g p q. d.one w a e f g p q;
  never_both = λ c a b e g p q. d.never_both w a b e g p q;
  either = λ c a g. d.either w a g;
}

pub demo_exists : (P : Program) (number : ℕ) (M : Mapping) (e : Exchange) → (plan : PlanContent Done) × IsDemoPlan number M e plan
demo_exists P number M e = let ns = nulls_exist (facts e.target) in (_, (ns.0, ns.1, refl))

pub demo_decided : (P : Program) (number : ℕ) (mode : Mode) → IsDecided AreAlike Any (demo_stages P number mode)
demo_decided P number mode =
    become_decided AreAlike Any (λ u q plan. IsDemoPlan number q.0 q.1 plan) (in_world (demo_world number) (exchanges P mode))
    (λ c u q g x. demo_exists P number q.0 q.1) (inside_decided AreAlike Any (demo_world number) (exchanges P mode) (exchanges_decided P mode))

-- ---- the commands

pub show_decided : (P : Program) (mode : Mode) → IsDecided AreAlike Any (show_stages P mode)
show_decided P mode =
    into_decided AreAlike Any (λ (u : Unit {0}) (M : Mapping). shown_plan P.list mode M) (mapping_stages P) (text_decided P First)

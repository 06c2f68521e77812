-- From the stages of showing, and the words, to what is written.
use Rattle.std.proofs.Common.{◌≡◌, ℕ, List, refl, sym, ap, subst, Result, Ok, Err, None, Some}
use Rattle.dx_ports.specs.States.{InputState}
use Rattle.dx_exchange.specs.declared.mode.Mode.{Mode}
use Rattle.dx_stages.specs.declared.stop.Stop.{Stop}
use Rattle.dx_stages.specs.declared.stop.Stop.TheVariants as stops
use Rattle.dx_stages.specs.Stages.{by, over}
use Rattle.dx_stages.specs.Running.{Ran}
use Rattle.dx_stages.specs.Ending.{PlanContent}
use Rattle.dx_stages.proofs.Running.{ran_by, ran_into, ran_into_stop, ran_memory, ran_next, ran_over, ran_stop, ran_value}
use Rattle.clio_accept.specs.declared.mapping.Mapping.{Mapping}
use Rattle.clio_top.specs.declared.command.Command.{Command}
use Rattle.clio_ending.specs.declared.ending.Done.{Done}
use Rattle.clio_ending.specs.declared.ending.Refusal.{Refusal}
use Rattle.clio_ending.specs.declared.ending.Refusal.TheVariants as refusals
use Rattle.clio_steps.specs.Steps.{Program, mapping_stages}
use Rattle.clio_top.specs.Running.{show_stages, shown_plan}
use Rattle.clio_top.specs.Commands.{run_stages, saying_words, stages_of}
use Rattle.clio_top.specs.Words.{or_usage, says}

-- ---- showing

pub show_stops : (P : Program) (mode : Mode) (e : Stop Refusal) (old new : InputState) → Ran (mapping_stages P) (tt {0}) (Err e) old new
    → Ran (show_stages P mode) (tt {0}) (Err e) old new
show_stops P mode e old new x = ran_into_stop (λ (u : Unit {0}) (M : Mapping). shown_plan P.list mode M) (mapping_stages P) (tt {0}) e old new x

pub shown : (P : Program) (mode : Mode) (M : Mapping) (p : PlanContent Done) (old new : InputState) → p ≡ shown_plan P.list mode M
    → Ran (mapping_stages P) (tt {0}) (Ok M) old new → Ran (show_stages P mode) (tt {0}) (Ok p) old new
shown P mode M p old new is x =
    subst (λ v. Ran (show_stages P mode) (tt {0}) (Ok v) old new) (sym is)
    (ran_into (λ (u : Unit {0}) (M : Mapping). shown_plan P.list mode M) (mapping_stages P) (tt {0}) M old new x)

-- what memory could not make of a mapping that was read
pub shown_none : (P : Program) (mode : Mode) (M : Mapping) (old new : InputState) → Ran (mapping_stages P) (tt {0}) (Ok M) old new
    → Ran (show_stages P mode) (tt {0}) (Err stops.Memory) old new
shown_none P mode M old new x =
    ran_memory (show_stages P mode) (tt {0}) (shown_plan P.list mode M) old new (shown P mode M (shown_plan P.list mode M) old new refl x)

-- ---- the words

-- the stages of the command that the words say
pub of_words : (P : Program) (words : List (List ℕ)) (command : Command) (q : Result (PlanContent Done) (Stop Refusal)) (old new : InputState)
    → says words ≡ Some command → Ran (stages_of P command) (tt {0}) q old new → Ran (run_stages P) words q old new
of_words P words command q old new is x =
    ran_next saying_words (by (λ (c : Command). over (λ (d : Command). tt {0}) (stages_of P c))) words command q old old new
    (λ c d a b n p h k. h) (ran_value saying_words words (Ok command) old (λ c. ap or_usage is))
    (ran_by (λ (c : Command). over (λ (d : Command). tt {0}) (stages_of P c)) command q old new
    (ran_over (λ (d : Command). tt {0}) (stages_of P command) command q old new x))

-- other words are refused
pub misused : (P : Program) (words : List (List ℕ)) (told : InputState) → says words ≡ None
    → Ran (run_stages P) words (Err (stops.Refused refusals.Usage)) told told
misused P words told is =
    ran_stop saying_words (by (λ (c : Command). over (λ (d : Command). tt {0}) (stages_of P c))) words (stops.Refused refusals.Usage) told told
    (ran_value saying_words words (Err (stops.Refused refusals.Usage)) told (λ c. ap or_usage is))

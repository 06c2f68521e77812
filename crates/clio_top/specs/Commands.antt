-- The stages of a run: what its words say, and then the stages of that command.
use Rattle.std.specs.Prelude.{List}
use Rattle.dx_stages.specs.Ending.{PlanContent}
use Rattle.dx_stages.specs.Stages.{Stage, next, by, over, computing}
use Rattle.clio_ending.specs.declared.ending.Done.{Done}
use Rattle.clio_ending.specs.declared.ending.Refusal.{Refusal}
use Rattle.clio_steps.specs.Steps.{Program}
use Rattle.clio_answer.specs.Answering.{answer_stages}
use Rattle.clio_judge.specs.Judging.{judge_stages}
use Rattle.clio_compare.specs.Comparing.{compare_stages}
use Rattle.clio_top.specs.declared.command.Command.{Command}
use Rattle.clio_top.specs.declared.command.Command.TheVariants.{Answering, Comparing, Demonstrating}
use Rattle.clio_top.specs.declared.command.Command.TheVariants.{Exchanging, Judging, Showing}
use Rattle.clio_top.specs.Words.{Word, or_usage, says}
use Rattle.clio_top.specs.Running.{exchange_stages, show_stages}
use Rattle.clio_top.specs.Demo.{IsDemoNumber, demo_stages}

-- the stages of a command
abbrev pub stages_of : Program → Command → Stage Refusal (Unit {0}) (PlanContent Done)
stages_of P (Exchanging mode nested) = exchange_stages P mode nested
stages_of P (Showing mode) = show_stages P mode
stages_of P (Demonstrating number mode) = demo_stages P number mode
stages_of P Answering = answer_stages P
stages_of P Judging = judge_stages P
stages_of P Comparing = compare_stages P

-- the command that the words say
abbrev pub saying_words : Stage Refusal (List Word) Command
saying_words = computing (λ words. or_usage (says words))

-- the words, and then the command's stages
abbrev pub run_stages : Program → Stage Refusal (List Word) (PlanContent Done)
run_stages P = next saying_words (by (λ (c : Command). over (λ (d : Command). tt {0}) (stages_of P c)))

-- words can say it: the number of a demo is from 1 to EMPLOYEES
abbrev pub IsInRange : Command → Type 0
IsInRange (Exchanging mode nested) = Unit {0}
IsInRange (Showing mode) = Unit {0}
IsInRange (Demonstrating number mode) = IsDemoNumber number
IsInRange Answering = Unit {0}
IsInRange Judging = Unit {0}
IsInRange Comparing = Unit {0}

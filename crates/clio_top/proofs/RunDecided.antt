-- There is one reason to refuse a run, or a plan, and never both.
use Rattle.dx_stages.specs.Stages.{by, over}
use Rattle.dx_stages.specs.Laws.{IsDecided}
use Rattle.dx_stages.proofs.Decided.{Any, next_decided, by_decided, over_decided, computing_one, computing_decided}
use Rattle.clio_ending.specs.Ending.{AreAlike}
use Rattle.clio_ending.proofs.Alike.{alike}
use Rattle.clio_top.specs.declared.command.Command.{Command}
use Rattle.clio_top.specs.declared.command.Command.TheVariants.{Answering, Comparing, Demonstrating, Exchanging, Judging, Showing}
use Rattle.clio_top.specs.Commands.{saying_words, stages_of}
use Rattle.clio_top.specs.Promises.{RefusedOrPlanned}
use Rattle.clio_steps.specs.Steps.{Program}
use Rattle.clio_top.specs.Words.{or_usage, says}
use Rattle.clio_compare.proofs.Pairs.{compare_decided}
use Rattle.clio_judge.proofs.JudgedIn.{judge_decided}
use Rattle.clio_answer.proofs.Posed.{answer_decided}
use Rattle.clio_top.proofs.Promised.{demo_decided, exchange_decided, show_decided}

stages_decided : (P : Program) (c : Command) → IsDecided AreAlike Any (stages_of P c)
stages_decided P (Exchanging mode nested) = exchange_decided P mode nested
stages_decided P (Showing mode) = show_decided P mode
stages_decided P (Demonstrating number mode) = demo_decided P number mode
stages_decided P Answering = answer_decided P
stages_decided P Judging = judge_decided P
stages_decided P Comparing = compare_decided P

pub run_decided : RefusedOrPlanned
run_decided P =
    next_decided AreAlike Any Any saying_words (by (λ (c : Command). over (λ (d : Command). tt {0}) (stages_of P c)))
    (computing_one (λ words. or_usage (says words))) (λ c a b g p. tt) (computing_decided AreAlike Any (λ words. or_usage (says words)) alike)
    (by_decided AreAlike Any (λ (c : Command). over (λ (d : Command). tt {0}) (stages_of P c))
    (λ c g. over_decided AreAlike Any Any (λ (d : Command). tt {0}) (stages_of P c) (λ a g. tt) (stages_decided P c)))

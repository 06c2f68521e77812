-- Which reasons there are to refuse: usage is that of words, and want of memory is none; each other one has its word.
use Rattle.std.proofs.Common.{◌≡◌, ℕ, List, refl, ap, inl, inr, Option, Some, None, Err}
use Rattle.dx_stages.specs.Worlds.{World}
use Rattle.clio_ending.specs.declared.ending.Refusal.TheVariants as refusals
use Rattle.clio_top.specs.declared.command.Command.{Command}
use Rattle.clio_top.specs.declared.command.Command.TheVariants.{Answering, Comparing, Demonstrating, Exchanging, Judging, Showing}
use Rattle.clio_steps.specs.declared.texts.Side.TheVariants.{First}
use Rattle.clio_top.specs.Words.{or_usage, says}
use Rattle.clio_steps.specs.Steps.{Program}
use Rattle.clio_top.specs.Demo.{demo_world}
use Rattle.clio_top.specs.Commands.{IsInRange, run_stages, stages_of}
use Rattle.clio_top.specs.Promises.{MemoryIsNoReason, ReasonsHaveWords, UsageIsOfWords}
use Rattle.clio_top.proofs.Asked.{said}
use Rattle.clio_top.proofs.Ranges.{says_ranged}
use Rattle.clio_steps.proofs.Reasons.{accepting_never, exchanges_have_words, text_never, texts_have_words, exchange_never}
use Rattle.clio_compare.proofs.Usage.{compare_never}
use Rattle.clio_judge.proofs.JudgedIn.{verdicts_have_words}
use Rattle.clio_judge.proofs.Usage.{judge_never}
use Rattle.clio_answer.proofs.Queried.{queries_have_words}
use Rattle.clio_answer.proofs.Usage.{answer_never}

pub no_reason : MemoryIsNoReason
no_reason P c text a = (accepting_never P.list P.tests c text, λ h. h)

pub words_for_reasons : ReasonsHaveWords
words_for_reasons P side target = (texts_have_words P side, queries_have_words target, exchanges_have_words P.apply target, verdicts_have_words P.apply)

-- a command that words say
command_never : (P : Program) (c : World) (k : Command) → IsInRange k → ¬ ((stages_of P k).refuses c (tt {0}) refusals.Usage)
command_never P c (Exchanging mode nested) said h = exchange_never P mode c h
command_never P c (Showing mode) said h = text_never P First c h
command_never P c (Demonstrating number mode) said h = exchange_never P mode (demo_world number) h
command_never P c Answering said h = answer_never P c h
command_never P c Judging said h = judge_never P c h
command_never P c Comparing said h = compare_never P c h

none_said : (o : Option Command) → or_usage o ≡ Err refusals.Usage → o ≡ None
none_said None h = refl
none_said (Some k) h = absurd (cc)

of_words : (P : Program) (c : World) (words : List (List ℕ)) → (run_stages P).refuses c words refusals.Usage → says words ≡ None
of_words P c words (inl h) = none_said (says words) h
of_words P c words (inr (k, w, h)) = absurd (command_never P c k (says_ranged words k (said words k w)) h)

pub usage : UsageIsOfWords
usage P c words = (of_words P c words, λ h. inl (ap or_usage h))

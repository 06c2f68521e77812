-- What is said of a verdict that names a set, and of two answers.
use Rattle.std.proofs.Common.{◌≡◌, ℕ, [], refl, subst}
use Rattle.std.specs.Fmt.{digits}
use Rattle.csv.specs.Writing.{fields_text, is_blank}
use Rattle.dx_stages.specs.Worlds.{World}
use Rattle.dx_exchange.specs.declared.result.Exchange.{Exchange}
use Rattle.clio_accept.specs.declared.mapping.Mapping.{Mapping}
use Rattle.clio_files.specs.Answers.{answer_files}
use Rattle.clio_files.specs.Files.{files_of, summary_of}
use Rattle.clio_files.specs.Verdicts.{verdict_text}
use Rattle.clio_steps.specs.Outcomes.{Writing, wrote_all}
use Rattle.clio_steps.specs.Steps.{Program}
use Rattle.clio_answer.specs.Outcomes.{IsAnsweredIn}
use Rattle.clio_judge.specs.Outcomes.{IsJudgedIn}
use Rattle.dx_worked.specs.Answered.{TwoArePlanned, TwoAreSaid, answers_put, answers_said, two_answers, two_rows}
use Rattle.dx_worked.specs.Judged.{TargetSetIsNamed, TargetSetIsSaid, keyed_persons, said_of_them, two_of_one}

-- ---- the verdict

pub set_is_named : TargetSetIsNamed
unfolding digits
set_is_named = refl

said_here : (Wrote : Writing) → Wrote [] (verdict_text keyed_persons.target two_of_one) → Wrote [] said_of_them
unfolding digits
said_here Wrote w = w

pub set_is_said : TargetSetIsSaid
set_is_said P c before after j is = said_here (wrote_all before after) (subst (λ (M : Mapping). wrote_all before after [] (verdict_text M.target two_of_one)) is j.written)

-- ---- the answers

pub two_are_planned : TwoArePlanned
unfolding digits fields_text is_blank
two_are_planned M e = refl

answers_here : (Wrote : Writing) → Wrote (files_of (answer_files 2 two_rows)) (summary_of (answer_files 2 two_rows)) → Wrote answers_put answers_said
unfolding digits fields_text is_blank
answers_here Wrote w = w

pub two_are_said : TwoAreSaid
two_are_said P c e before after a two =
    answers_here (wrote_all before after) (subst (λ (n : ℕ). wrote_all before after (files_of (answer_files n two_rows)) (summary_of (answer_files n two_rows))) two a.written)

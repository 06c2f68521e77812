-- What holds of the answers to a query.
use Rattle.dx_ports.specs.States.{OutputState}
use Rattle.dx_stages.specs.Laws.{IsDecided}
use Rattle.dx_stages.specs.Worlds.{World}
use Rattle.clio_ending.specs.declared.ending.Answers.{Answers}
use Rattle.clio_ending.specs.Ending.{AreAlike}
use Rattle.clio_steps.specs.Steps.{Program}
use Rattle.clio_steps.specs.Outcomes.{wrote_all}
use Rattle.clio_answer.specs.Answering.{MappingAndQuery, answer_stages, answered_plan, answers}
use Rattle.clio_answer.specs.Outcomes.{IsAnsweredIn}

-- there are answers, or one reason to refuse them, up to which clash is reported, and never both
abbrev pub AnswersOrRefusal : Type 0
AnswersOrRefusal = (P : Program) → IsDecided AreAlike (λ u. Unit {0}) (answer_stages P)

-- the answers that are planned are exactly the certain ones, however they are written
abbrev pub AnswersAreCertain : Type 0
AnswersAreCertain =
    (P : Program) (c : World) (p : MappingAndQuery) (a : Answers) (before after : OutputState)
    → (answers P).passes c (tt {0}) (p, a)
    → (let plan = answered_plan (p, a) in wrote_all before after plan.files plan.text)
    → IsAnsweredIn P c a (wrote_all before after)

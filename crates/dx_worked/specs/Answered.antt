-- What is put and said of two answers of two columns.
use Rattle.std.specs.Prelude.{◌≡◌, List, [], ◌∷◌, codes}
use Rattle.dx_base.specs.Entries.{Entry}
use Rattle.dx_base.specs.Texts.{Text}
use Rattle.dx_ports.specs.States.{OutputState}
use Rattle.dx_model.specs.Values.{Tuple}
use Rattle.dx_stages.specs.Worlds.{World}
use Rattle.dx_exchange.specs.declared.result.Exchange.{Exchange}
use Rattle.clio_accept.specs.declared.mapping.Mapping.{Mapping}
use Rattle.clio_ending.specs.declared.ending.Answers.{Answers}
use Rattle.clio_ending.specs.declared.ending.Done.TheVariants.{Answered}
use Rattle.clio_steps.specs.Outcomes.{wrote_all}
use Rattle.clio_steps.specs.Steps.{Program}
use Rattle.clio_answer.specs.Answering.{answered_plan}
use Rattle.clio_answer.specs.Outcomes.{IsAnsweredIn}

-- ann, of whom no text is known, and bob
abbrev pub two_rows : List Tuple
two_rows = (codes "ann" ∷ [] ∷ []) ∷ (codes "bob" ∷ codes "1" ∷ []) ∷ []

abbrev pub two_answers : Exchange → Answers
two_answers e = record { exchange = e; rows = two_rows }

-- the one file
abbrev pub answers_put : List Entry
answers_put = (codes "answers.csv", codes "c0,c1\nann,\nbob,1\n") ∷ []

-- the file is said with the number of answers
abbrev pub answers_said : Text
answers_said = codes "answers.csv 2\n"

-- this is what is put and said of them
abbrev pub TwoArePlanned : Type 0
TwoArePlanned =
    (M : Mapping) (e : Exchange)
    → answered_plan ((M, record { width = 2; parts = [] }), two_answers e)
    ≡ record { done = Answered (two_answers e); files = answers_put; text = answers_said }

-- and so it is in whatever world these are the answers
abbrev pub TwoAreSaid : Type 0
TwoAreSaid =
    (P : Program) (c : World) (e : Exchange) (before after : OutputState)
    → (a : IsAnsweredIn P c (two_answers e) (wrote_all before after)) → a.asked.query.width ≡ 2
    → wrote_all before after answers_put answers_said

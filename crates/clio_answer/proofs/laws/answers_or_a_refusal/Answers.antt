use Rattle.clio_steps.specs.Outcomes.{wrote_all}
use Rattle.clio_answer.proofs.AnsweredIn.{answered_in}
use Rattle.clio_answer.proofs.Posed.{answer_decided}
use Rattle.clio_answer.proofs.laws.answers_or_a_refusal.Goals as goal

pub returns-clause-decided : goal.returns-clause-decided
returns-clause-decided c = answer_decided

pub returns-clause-certain : goal.returns-clause-certain
returns-clause-certain c = λ P w p a before after x wrote. answered_in P w (p, a) (wrote_all before after) x wrote

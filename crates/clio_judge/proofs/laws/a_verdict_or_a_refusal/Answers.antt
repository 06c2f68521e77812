use Rattle.clio_steps.specs.Outcomes.{wrote_all}
use Rattle.clio_judge.proofs.JudgedIn.{judge_decided, judged_in}
use Rattle.clio_judge.proofs.laws.a_verdict_or_a_refusal.Goals as goal

pub returns-clause-decided : goal.returns-clause-decided
returns-clause-decided c = judge_decided

pub returns-clause-so : goal.returns-clause-so
returns-clause-so c = λ P w M v before after x wrote. judged_in P w (M, v) (wrote_all before after) x wrote

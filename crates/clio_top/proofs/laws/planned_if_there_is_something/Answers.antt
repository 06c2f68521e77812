use Rattle.clio_top.proofs.Clashes.{demo_clashes}
use Rattle.clio_top.proofs.Completing.{answers_clash, answers_planned, demo_planned, planned, shown}
use Rattle.clio_top.proofs.laws.planned_if_there_is_something.Goals as goal

pub returns-clause-exchange : goal.returns-clause-exchange
returns-clause-exchange c = planned

pub returns-clause-shown : goal.returns-clause-shown
returns-clause-shown c = shown

pub returns-clause-demo : goal.returns-clause-demo
returns-clause-demo c = demo_planned

pub returns-clause-demo_clash : goal.returns-clause-demo_clash
returns-clause-demo_clash c = demo_clashes

pub returns-clause-answers : goal.returns-clause-answers
returns-clause-answers c = answers_planned

pub returns-clause-no_answer : goal.returns-clause-no_answer
returns-clause-no_answer c = answers_clash

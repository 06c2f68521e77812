use Rattle.dx_funcs.specs.Judging.{tested}
use Rattle.dx_funcs.specs.Serving.{offered}
use Rattle.dx_stages.specs.Ending.{planned}
use Rattle.dx_stages.proofs.Running.{ran_value}
use Rattle.clio_steps.specs.Steps.{Program, program}
use Rattle.clio_top.specs.Demo.{demo_stages}
use Rattle.clio_top.proofs.top.plan_command.Goals as goal

pub returns-in-Demonstrating : goal.returns-in-Demonstrating
returns-in-Demonstrating g c =
    let P : Program = program (offered c.args.host.now) (tested c.args.tests.now) g.M.Meaning.apply g.M.Meaning.passes in
    rw c.in-Demonstrating.is
    (ran_value (demo_stages P c.in-Demonstrating.number c.in-Demonstrating.mode) tt (planned c.demo_plan.result) _ c.demo_plan.ensures)

pub returns-in-Exchanging : goal.returns-in-Exchanging
returns-in-Exchanging g c = rw c.in-Exchanging.is c.exchange_plan.ensures

pub returns-in-Showing : goal.returns-in-Showing
returns-in-Showing g c = rw c.in-Showing.is c.show_plan.ensures

pub returns-in-Answering : goal.returns-in-Answering
returns-in-Answering g c = rw c.in-Answering.is c.answer_plan.ensures

pub returns-in-Comparing : goal.returns-in-Comparing
returns-in-Comparing g c = rw c.in-Comparing.is c.compare_plan.ensures

pub returns-in-Judging : goal.returns-in-Judging
returns-in-Judging g c = rw c.in-Judging.is c.judge_plan.ensures

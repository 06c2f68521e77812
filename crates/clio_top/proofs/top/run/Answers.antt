use Rattle.dx_funcs.specs.Judging.{tested}
use Rattle.dx_funcs.specs.Serving.{offered}
use Rattle.dx_stages.proofs.Decided.{Any}
use Rattle.dx_stages.proofs.Carrying.{carried_runs}
use Rattle.clio_ending.specs.Ending.{AreAlike}
use Rattle.clio_top.specs.Commands.{run_stages}
use Rattle.clio_steps.specs.Steps.{Program, program}
use Rattle.clio_top.proofs.Headline.{is_right}
use Rattle.clio_top.proofs.RunDecided.{run_decided}
use Rattle.clio_top.proofs.top.run.Goals as goal

pub returns : goal.returns
returns g c =
    let P : Program = program (offered c.args.host.now) (tested c.args.tests.now) g.M.Meaning.apply g.M.Meaning.passes in
    is_right P _ _ c.carry_out.result _ _ _ _ _ _ c.as_ending.ensures
    (carried_runs AreAlike Any (run_stages P) (run_decided P) _ tt _ _ _ _ _ _ _ c.carry_out.result (rw c.deref.ensures.value at c.plan_words-plan.ensures) c.carry_out.ensures)

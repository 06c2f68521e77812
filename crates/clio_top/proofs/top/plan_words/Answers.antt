use Rattle.std.proofs.Common.{sym, ◌∙◌}
use Rattle.dx_funcs.specs.Judging.{tested}
use Rattle.dx_funcs.specs.Serving.{offered}
use Rattle.dx_stages.specs.Ending.{planned}
use Rattle.clio_steps.specs.Steps.{Program, program}
use Rattle.clio_top.proofs.Plans.{misused, of_words}
use Rattle.clio_top.proofs.Ranges.{says_ranged}
use Rattle.clio_top.proofs.top.plan_words.Goals as goal

pub plan_command-requires-clause-range : goal.plan_command-requires-clause-range
plan_command-requires-clause-range g c = says_ranged c.args.words.now c.in-Some.command (sym c.command_of.ensures ∙ c.in-Some.is)

pub returns-in-Some : goal.returns-in-Some
returns-in-Some g c =
    let P : Program = program (offered c.args.host.now) (tested c.args.tests.now) g.M.Meaning.apply g.M.Meaning.passes in
    of_words P c.args.words.now c.in-Some.command (planned c.plan_command.result) _ _ (sym c.command_of.ensures ∙ c.in-Some.is) c.plan_command.ensures

pub returns-in-None : goal.returns-in-None
returns-in-None g c =
    let P : Program = program (offered c.args.host.now) (tested c.args.tests.now) g.M.Meaning.apply g.M.Meaning.passes in
    misused P c.args.words.now _ (sym c.command_of.ensures ∙ c.in-None.is)

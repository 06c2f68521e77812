use Rattle.dx_stages.proofs.Running.{ran_saying}
use Rattle.clio_given.specs.Given.{TargetRequest, given_stages}
use Rattle.clio_ending.specs.Ending.{source_refusal}
use Rattle.clio_judge.proofs.judging.read_target.Goals as goal

pub returns : goal.returns
returns g c =
    let w : TargetRequest = record { schema = c.args.target.now; bytes_left = c.args.bytes_left } in
    ran_saying source_refusal given_stages w c.read_given.result c.with_source_refusal.result _ _ c.with_source_refusal.ensures c.read_given.ensures

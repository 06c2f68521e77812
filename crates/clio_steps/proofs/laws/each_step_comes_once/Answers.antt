use Rattle.clio_steps.proofs.Spine.{once_in}
use Rattle.clio_steps.proofs.laws.each_step_comes_once.Goals as goal

pub returns : goal.returns
returns c = once_in

use Rattle.dx_judge.proofs.Judgements.{no_clash}
use Rattle.dx_judge.proofs.laws.solutions_are_received.Goals as goal

pub returns : goal.returns
returns c = no_clash

use Rattle.dx_eval.proofs.OneRun.{made_or_passed}
use Rattle.dx_eval.proofs.laws.made_or_passed.Goals as goal

pub returns : goal.returns
returns c = made_or_passed

use Rattle.dx_eval.proofs.OneRun.{runs_agree}
use Rattle.dx_eval.proofs.laws.runs_agree.Goals as goal

pub returns : goal.returns
returns c = runs_agree

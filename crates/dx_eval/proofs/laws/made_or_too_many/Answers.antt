use Rattle.dx_eval.proofs.OneRun.{made_or_too_many}
use Rattle.dx_eval.proofs.laws.made_or_too_many.Goals as goal

pub returns : goal.returns
returns c = made_or_too_many

use Rattle.dx_instance.proofs.AfterFacts.{pairs_give}
use Rattle.dx_instance.proofs.laws.pairs_give.Goals as goal

pub returns : goal.returns
returns c = pairs_give

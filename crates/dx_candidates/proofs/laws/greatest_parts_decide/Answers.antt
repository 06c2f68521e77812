use Rattle.dx_candidates.proofs.Decide.{greatest_parts_decide}
use Rattle.dx_candidates.proofs.laws.greatest_parts_decide.Goals as goal

pub returns : goal.returns
returns c = greatest_parts_decide

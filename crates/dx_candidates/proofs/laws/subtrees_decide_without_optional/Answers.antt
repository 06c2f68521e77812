use Rattle.dx_candidates.proofs.Plain.{subtrees_decide_without_optional}
use Rattle.dx_candidates.proofs.laws.subtrees_decide_without_optional.Goals as goal

pub returns : goal.returns
returns c = subtrees_decide_without_optional

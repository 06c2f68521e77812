use Rattle.dx_model.proofs.Joining as joining
use Rattle.dx_model.proofs.laws.parts_join.Goals as goal

pub returns : goal.returns
returns c = joining.parts_join

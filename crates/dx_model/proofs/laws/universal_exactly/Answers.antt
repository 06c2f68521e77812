use Rattle.dx_model.proofs.Exactly.{universal_exactly}
use Rattle.dx_model.proofs.laws.universal_exactly.Goals as goal

pub returns : goal.returns
returns c = universal_exactly

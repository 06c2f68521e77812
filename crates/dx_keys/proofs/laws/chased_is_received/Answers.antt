use Rattle.dx_keys.proofs.Received.{chased_is_received}
use Rattle.dx_keys.proofs.laws.chased_is_received.Goals as goal

pub returns : goal.returns
returns c = chased_is_received

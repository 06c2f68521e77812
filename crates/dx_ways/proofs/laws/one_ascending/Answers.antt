use Rattle.dx_ways.proofs.Order.{one_ascending}
use Rattle.dx_ways.proofs.laws.one_ascending.Goals as goal

pub returns : goal.returns
returns c = one_ascending

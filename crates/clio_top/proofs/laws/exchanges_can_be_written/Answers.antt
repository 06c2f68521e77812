use Rattle.clio_top.proofs.Writing.{can_be_written}
use Rattle.clio_top.proofs.laws.exchanges_can_be_written.Goals as goal

pub returns : goal.returns
returns c = can_be_written

use Rattle.clio_top.proofs.Examples.{core_planned, plain_planned}
use Rattle.clio_top.proofs.laws.an_exchange_is_planned.Goals as goal

pub returns : goal.returns
returns c = λ P. (plain_planned P, core_planned P)

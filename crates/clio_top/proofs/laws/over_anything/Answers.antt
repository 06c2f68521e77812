use Rattle.clio_top.proofs.Asked.{as_asked}
use Rattle.clio_top.proofs.Asking.{in_order}
use Rattle.clio_top.proofs.laws.over_anything.Goals as goal

pub returns-clause-done : goal.returns-clause-done
returns-clause-done c = as_asked

pub returns-clause-asked : goal.returns-clause-asked
returns-clause-asked c = in_order

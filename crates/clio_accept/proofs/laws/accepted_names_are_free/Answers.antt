use Rattle.clio_accept.proofs.Accepted.{none_reserved}
use Rattle.clio_accept.proofs.laws.accepted_names_are_free.Goals as goal

pub returns : goal.returns
returns c = none_reserved

use Rattle.clio_source.proofs.Decided.{left_decided, left_one, of_both}
use Rattle.clio_source.proofs.laws.bytes_are_left_of_one_source.Goals as goal

pub returns-clause-source : goal.returns-clause-source
returns-clause-source c = left_one

pub returns-clause-refused : goal.returns-clause-refused
returns-clause-refused c = left_decided

pub returns-clause-same : goal.returns-clause-same
returns-clause-same c = of_both

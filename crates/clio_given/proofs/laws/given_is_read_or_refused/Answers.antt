use Rattle.clio_given.proofs.Decided.{given_decided, given_one}
use Rattle.clio_given.proofs.Fitted.{given_fits}
use Rattle.clio_given.proofs.laws.given_is_read_or_refused.Goals as goal

pub returns-clause-given : goal.returns-clause-given
returns-clause-given c = given_one

pub returns-clause-refused : goal.returns-clause-refused
returns-clause-refused c = given_decided

pub returns-clause-fits : goal.returns-clause-fits
returns-clause-fits c = given_fits

use Rattle.clio_accept.proofs.Decided.{accepting_decided, accepting_one}
use Rattle.clio_accept.proofs.laws.a_text_is_accepted_or_refused.Goals as goal

pub returns-clause-mapping : goal.returns-clause-mapping
returns-clause-mapping c = accepting_one

pub returns-clause-refused : goal.returns-clause-refused
returns-clause-refused c = accepting_decided

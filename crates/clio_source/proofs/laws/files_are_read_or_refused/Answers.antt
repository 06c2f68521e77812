use Rattle.clio_source.proofs.Decided.{source_decided, source_one}
use Rattle.clio_source.proofs.laws.files_are_read_or_refused.Goals as goal

pub returns-clause-source : goal.returns-clause-source
returns-clause-source c = source_one

pub returns-clause-refused : goal.returns-clause-refused
returns-clause-refused c = source_decided

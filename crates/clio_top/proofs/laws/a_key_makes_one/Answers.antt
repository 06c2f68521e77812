use Rattle.clio_top.proofs.KeyedExample.{keyed_is_planned, keyed_is_written}
use Rattle.clio_top.proofs.laws.a_key_makes_one.Goals as goal

pub returns-clause-planned : goal.returns-clause-planned
returns-clause-planned c = keyed_is_planned

pub returns-clause-written : goal.returns-clause-written
returns-clause-written c = keyed_is_written

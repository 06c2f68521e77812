use Rattle.clio_top.proofs.ClashExample.{clash_is_refused, clash_is_this}
use Rattle.clio_top.proofs.laws.a_clash_is_told.Goals as goal

pub returns-clause-refused : goal.returns-clause-refused
returns-clause-refused c = clash_is_refused

pub returns-clause-this : goal.returns-clause-this
returns-clause-this c = clash_is_this

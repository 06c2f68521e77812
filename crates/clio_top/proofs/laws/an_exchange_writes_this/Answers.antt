use Rattle.clio_top.proofs.WrittenExample.{small_is_written}
use Rattle.clio_top.proofs.laws.an_exchange_writes_this.Goals as goal

pub returns : goal.returns
returns c = small_is_written

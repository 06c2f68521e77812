use Rattle.clio_files.proofs.Existing.{files_exist}
use Rattle.clio_files.proofs.laws.an_exchange_has_files.Goals as goal

pub returns : goal.returns
returns c = files_exist

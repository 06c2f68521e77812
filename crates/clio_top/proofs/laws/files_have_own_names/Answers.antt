use Rattle.clio_top.proofs.OwnNames.{own_names}
use Rattle.clio_top.proofs.laws.files_have_own_names.Goals as goal

pub returns : goal.returns
returns c = own_names

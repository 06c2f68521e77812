use Rattle.clio_files.proofs.OwnNames.{names_are_apart}
use Rattle.clio_files.proofs.laws.names_are_apart.Goals as goal

pub returns : goal.returns
returns c = names_are_apart

use Rattle.clio_top.proofs.Names.{puts_by_name, reads_by_name}
use Rattle.clio_top.proofs.laws.names_are_of_the_folder.Goals as goal

pub returns-clause-read : goal.returns-clause-read
returns-clause-read c = reads_by_name

pub returns-clause-put : goal.returns-clause-put
returns-clause-put c = puts_by_name

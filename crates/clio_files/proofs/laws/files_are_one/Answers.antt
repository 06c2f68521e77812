use Rattle.clio_files.proofs.OneList.{one_list_of_files}
use Rattle.clio_files.proofs.laws.files_are_one.Goals as goal

pub returns : goal.returns
returns c = one_list_of_files

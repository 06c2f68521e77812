use Rattle.clio_files.proofs.Compared.{files_exist, names_are_apart, one_list}
use Rattle.clio_files.proofs.laws.a_comparison_has_files.Goals as goal

pub returns-clause-exist : goal.returns-clause-exist
returns-clause-exist c = files_exist

pub returns-clause-one : goal.returns-clause-one
returns-clause-one c = one_list

pub returns-clause-names : goal.returns-clause-names
returns-clause-names c = names_are_apart

use Rattle.dx_model.proofs.RowsExist.{rows_of_all_exist, rows_of_all, rows_of_all_by_members}
use Rattle.dx_model.proofs.laws.rows_of_all_rules.Goals as goal

pub returns-clause-exist : goal.returns-clause-exist
returns-clause-exist c = rows_of_all_exist

pub returns-clause-one : goal.returns-clause-one
returns-clause-one c = rows_of_all

pub returns-clause-members : goal.returns-clause-members
returns-clause-members c = rows_of_all_by_members

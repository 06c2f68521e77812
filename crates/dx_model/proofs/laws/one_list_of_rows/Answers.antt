use Rattle.dx_model.proofs.RowsExist.{rows_exist, one_rows, rows_by_members, satisfied_by_rows}
use Rattle.dx_model.proofs.laws.one_list_of_rows.Goals as goal

pub returns-clause-exist : goal.returns-clause-exist
returns-clause-exist c = rows_exist

pub returns-clause-one : goal.returns-clause-one
returns-clause-one c = one_rows

pub returns-clause-members : goal.returns-clause-members
returns-clause-members c = rows_by_members

pub returns-clause-satisfied : goal.returns-clause-satisfied
returns-clause-satisfied c = satisfied_by_rows

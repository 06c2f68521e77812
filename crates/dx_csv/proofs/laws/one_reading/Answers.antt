use Rattle.dx_csv.proofs.OneReading.{table-is-one, fault-is-one, faults-exclude}
use Rattle.dx_csv.proofs.laws.one_reading.Goals as goal
use Rattle.dx_csv.proofs.Decided.{table_or_fault}

pub returns-clause-table : goal.returns-clause-table
returns-clause-table c = table-is-one

pub returns-clause-fault : goal.returns-clause-fault
returns-clause-fault c = fault-is-one

pub returns-clause-either : goal.returns-clause-either
returns-clause-either c = table_or_fault

pub returns-clause-never_both : goal.returns-clause-never_both
returns-clause-never_both c = faults-exclude

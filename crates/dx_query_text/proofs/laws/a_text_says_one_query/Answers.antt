use Rattle.dx_query_text.proofs.Over.{faults_are_placed, never_said_and_faulty, one_fault, one_query, query_or_fault}
use Rattle.dx_query_text.proofs.laws.a_text_says_one_query.Goals as goal

pub returns-clause-query : goal.returns-clause-query
returns-clause-query c = one_query

pub returns-clause-fault : goal.returns-clause-fault
returns-clause-fault c = one_fault

pub returns-clause-either : goal.returns-clause-either
returns-clause-either c = query_or_fault

pub returns-clause-never_both : goal.returns-clause-never_both
returns-clause-never_both c = never_said_and_faulty

pub returns-clause-placed : goal.returns-clause-placed
returns-clause-placed c = faults_are_placed

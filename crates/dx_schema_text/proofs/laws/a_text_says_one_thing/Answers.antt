use Rattle.dx_schema_text.proofs.Answered.{one_mapping, one_fault, mapping_or_fault, never_said_and_faulty}
use Rattle.dx_schema_text.proofs.laws.a_text_says_one_thing.Goals as goal

pub returns-clause-mapping : goal.returns-clause-mapping
returns-clause-mapping c = one_mapping

pub returns-clause-fault : goal.returns-clause-fault
returns-clause-fault c = one_fault

pub returns-clause-either : goal.returns-clause-either
returns-clause-either c = mapping_or_fault

pub returns-clause-never_both : goal.returns-clause-never_both
returns-clause-never_both c = never_said_and_faulty

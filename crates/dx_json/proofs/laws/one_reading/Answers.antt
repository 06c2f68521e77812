use Rattle.dx_json.proofs.OneReading.{either, facts_are_one, fault_is_one, never_both}
use Rattle.dx_json.proofs.laws.one_reading.Goals as goal

pub returns-clause-facts : goal.returns-clause-facts
returns-clause-facts c = facts_are_one

pub returns-clause-fault : goal.returns-clause-fault
returns-clause-fault c = fault_is_one

pub returns-clause-either : goal.returns-clause-either
returns-clause-either c = either

pub returns-clause-never_both : goal.returns-clause-never_both
returns-clause-never_both c = never_both

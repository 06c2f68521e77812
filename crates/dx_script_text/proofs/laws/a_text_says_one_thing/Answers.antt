use Rattle.dx_tokens.proofs.Judged.{one_fault_by}
use Rattle.dx_script_text.specs.Texts.{IsUnexpectedInScript, ScriptStops}
use Rattle.dx_script_text.proofs.Answered.{are_apart, one_script, script_or_fault, never_said_and_faulty}
use Rattle.dx_script_text.proofs.laws.a_text_says_one_thing.Goals as goal

pub returns-clause-script : goal.returns-clause-script
returns-clause-script c = one_script

pub returns-clause-fault : goal.returns-clause-fault
returns-clause-fault c text = one_fault_by (IsUnexpectedInScript text) (λ place. ⊥) (ScriptStops text) (are_apart text)

pub returns-clause-either : goal.returns-clause-either
returns-clause-either c = script_or_fault

pub returns-clause-never_both : goal.returns-clause-never_both
returns-clause-never_both c = never_said_and_faulty

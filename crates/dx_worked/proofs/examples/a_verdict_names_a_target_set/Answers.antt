use Rattle.dx_worked.proofs.Said.{set_is_named, set_is_said}
use Rattle.dx_worked.proofs.examples.a_verdict_names_a_target_set.Goals as goal

pub returns : goal.returns
returns c = record { planned = set_is_named; said = set_is_said }

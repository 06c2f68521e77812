use Rattle.dx_worked.proofs.Missed.{rule_is_missed}
use Rattle.dx_worked.proofs.examples.a_target_is_judged_by_rules.Goals as goal

pub returns : goal.returns
returns c = rule_is_missed

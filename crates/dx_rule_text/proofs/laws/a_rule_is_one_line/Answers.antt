use Rattle.dx_rule_text.proofs.OneLine.{rules_are_one_line}
use Rattle.dx_rule_text.proofs.laws.a_rule_is_one_line.Goals as goal

pub returns : goal.returns
returns c = rules_are_one_line

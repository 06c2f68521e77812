use Rattle.clio_rule_laws.proofs.ReadRules.{said_rules_are_printable}
use Rattle.clio_rule_laws.proofs.laws.rules_that_are_said_can_be_printed.Goals as goal

pub returns : goal.returns
returns c = said_rules_are_printable

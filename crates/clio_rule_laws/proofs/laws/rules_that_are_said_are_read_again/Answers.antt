use Rattle.clio_rule_laws.proofs.Said.{said_rules_are_read_again}
use Rattle.clio_rule_laws.proofs.laws.rules_that_are_said_are_read_again.Goals as goal

pub returns : goal.returns
returns c = said_rules_are_read_again

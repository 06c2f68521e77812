use Rattle.clio_rule_laws.proofs.CanBeWritten.{printed_rules_are_read}
use Rattle.clio_rule_laws.proofs.OneRule.{printed_rules_differ}
use Rattle.clio_rule_laws.proofs.laws.a_printed_rule_is_read.Goals as goal

pub returns-clause-read : goal.returns-clause-read
returns-clause-read c = printed_rules_are_read

pub returns-clause-differ : goal.returns-clause-differ
returns-clause-differ c = printed_rules_differ

use Rattle.clio_rule_laws.proofs.Said.{said_rules_are_writable}
use Rattle.clio_rule_laws.proofs.LineRules.{line_rules_are_writable}
use Rattle.clio_rule_laws.proofs.Closings.{closings_are_writable}
use Rattle.clio_rule_laws.proofs.laws.rules_of_texts_can_be_written.Goals as goal

pub returns-clause-said : goal.returns-clause-said
returns-clause-said c = said_rules_are_writable

pub returns-clause-lines : goal.returns-clause-lines
returns-clause-lines c = line_rules_are_writable

pub returns-clause-closed : goal.returns-clause-closed
returns-clause-closed c = closings_are_writable

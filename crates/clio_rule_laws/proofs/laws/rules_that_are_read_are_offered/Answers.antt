use Rattle.clio_rule_laws.proofs.ReadRules.{read_is_offered, read_behind_is_offered}
use Rattle.clio_rule_laws.proofs.laws.rules_that_are_read_are_offered.Goals as goal

pub returns-clause-rule : goal.returns-clause-rule
returns-clause-rule c = read_is_offered

pub returns-clause-behind : goal.returns-clause-behind
returns-clause-behind c = read_behind_is_offered

use Rattle.clio_rule_laws.proofs.ReadRules.{one_list_behind}
use Rattle.clio_rule_laws.proofs.OneRule.{one_rule, one_rule_text}
use Rattle.clio_rule_laws.proofs.laws.a_text_says_one_rule.Goals as goal

pub returns-clause-text : goal.returns-clause-text
returns-clause-text c = one_rule_text

pub returns-clause-rule : goal.returns-clause-rule
returns-clause-rule c = one_rule

pub returns-clause-behind : goal.returns-clause-behind
returns-clause-behind c = one_list_behind

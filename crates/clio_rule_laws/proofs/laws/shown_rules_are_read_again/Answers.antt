use Rattle.clio_rule_laws.proofs.Shown.{shown_rules_are_read_again}
use Rattle.clio_rule_laws.proofs.ShownAccepted.{shown_is_accepted}
use Rattle.clio_rule_laws.proofs.laws.shown_rules_are_read_again.Goals as goal

pub returns-clause-read : goal.returns-clause-read
returns-clause-read c = shown_rules_are_read_again

pub returns-clause-accepted : goal.returns-clause-accepted
returns-clause-accepted c = shown_is_accepted

use Rattle.dx_tgd_text.proofs.Fits.{read_rules_fit, read_rules_are_offered}
use Rattle.dx_tgd_text.proofs.laws.read_rules_fit.Goals as goal

pub returns-clause-fit : goal.returns-clause-fit
returns-clause-fit c = read_rules_fit

pub returns-clause-offered : goal.returns-clause-offered
returns-clause-offered c = read_rules_are_offered

use Rattle.dx_model.proofs.Widths.{fits_by_widths, widths_agree, rules_have_widths}
use Rattle.dx_model.proofs.laws.widths_of_atoms.Goals as goal

pub returns-clause-fit : goal.returns-clause-fit
returns-clause-fit c = fits_by_widths

pub returns-clause-agree : goal.returns-clause-agree
returns-clause-agree c = widths_agree

pub returns-clause-have : goal.returns-clause-have
returns-clause-have c = rules_have_widths

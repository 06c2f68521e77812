use Rattle.dx_instance.proofs.LawFacts.{facts_fit}
use Rattle.dx_instance.proofs.laws.facts_fit.Goals as goal

pub returns : goal.returns
returns c = facts_fit

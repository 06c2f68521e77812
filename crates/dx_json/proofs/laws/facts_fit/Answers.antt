use Rattle.dx_json.proofs.Fitting.{facts_fit}
use Rattle.dx_json.proofs.laws.facts_fit.Goals as goal

pub returns : goal.returns
returns c = facts_fit

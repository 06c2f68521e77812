use Rattle.dx_eval.proofs.OneRun.{tables_of_meaning}
use Rattle.dx_eval.proofs.laws.tables_of_meaning.Goals as goal

pub returns : goal.returns
returns c = tables_of_meaning

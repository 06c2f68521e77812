use Rattle.dx_closing.proofs.Going.{one_closing}
use Rattle.dx_closing.proofs.laws.one_closing.Goals as goal

pub returns : goal.returns
returns c = one_closing

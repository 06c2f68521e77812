use Rattle.dx_closing.proofs.Ends.{closing_ends}
use Rattle.dx_closing.proofs.laws.closing_ends.Goals as goal

pub returns : goal.returns
returns c = closing_ends

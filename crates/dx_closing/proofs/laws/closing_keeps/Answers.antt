use Rattle.dx_closing.proofs.Growth.{closing_keeps}
use Rattle.dx_closing.proofs.laws.closing_keeps.Goals as goal

pub returns : goal.returns
returns c = closing_keeps

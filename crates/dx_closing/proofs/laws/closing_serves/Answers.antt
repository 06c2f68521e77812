use Rattle.dx_closing.proofs.Served.{closing_serves}
use Rattle.dx_closing.proofs.laws.closing_serves.Goals as goal

pub returns : goal.returns
returns c = closing_serves

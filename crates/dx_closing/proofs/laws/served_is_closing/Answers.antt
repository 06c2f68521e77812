use Rattle.dx_closing.proofs.Own.{served_is_closing}
use Rattle.dx_closing.proofs.laws.served_is_closing.Goals as goal

pub returns : goal.returns
returns c = served_is_closing

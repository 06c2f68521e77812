use Rattle.dx_used.proofs.UsedLaws.{same_rows}
use Rattle.dx_used.proofs.laws.same_rows_if_they_agree.Goals as goal

pub returns : goal.returns
returns c = same_rows

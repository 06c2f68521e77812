use Rattle.dx_used.proofs.PassingLaws.{same_passing}
use Rattle.dx_used.proofs.laws.passing_rows_agree.Goals as goal

pub returns : goal.returns
returns c = same_passing

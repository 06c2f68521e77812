use Rattle.dx_cover_fold.proofs.Uncovering.{fold_uncovers}
use Rattle.dx_cover_fold.proofs.laws.fold_uncovers.Goals as goal

pub returns : goal.returns
returns c = fold_uncovers

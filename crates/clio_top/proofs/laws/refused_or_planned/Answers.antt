use Rattle.clio_top.proofs.RunDecided.{run_decided}
use Rattle.clio_top.proofs.laws.refused_or_planned.Goals as goal

pub returns : goal.returns
returns c = run_decided

use Rattle.clio_source.proofs.Roots.{no_parent}
use Rattle.clio_source.proofs.laws.roots_have_no_parent.Goals as goal

pub returns : goal.returns
returns c = no_parent

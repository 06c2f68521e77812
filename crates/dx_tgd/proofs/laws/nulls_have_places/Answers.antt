use Rattle.dx_tgd.proofs.CanonicalFacts.{nulls_have_places}
use Rattle.dx_tgd.proofs.laws.nulls_have_places.Goals as goal

pub returns : goal.returns
returns c = nulls_have_places

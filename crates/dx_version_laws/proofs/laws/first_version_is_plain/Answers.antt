use Rattle.dx_version_laws.proofs.Plain.{first_version_is_plain}
use Rattle.dx_version_laws.proofs.laws.first_version_is_plain.Goals as goal

pub returns : goal.returns
returns c = first_version_is_plain

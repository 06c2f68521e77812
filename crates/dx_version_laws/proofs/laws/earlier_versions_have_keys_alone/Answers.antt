use Rattle.dx_version_laws.proofs.Plain.{earlier_have_keys_alone}
use Rattle.dx_version_laws.proofs.laws.earlier_versions_have_keys_alone.Goals as goal

pub returns : goal.returns
returns c = earlier_have_keys_alone

use Rattle.dx_schema_text.proofs.Versions.{said_is_of_version}
use Rattle.dx_schema_text.proofs.laws.what_is_said_is_of_its_version.Goals as goal

pub returns : goal.returns
returns c = said_is_of_version

use Rattle.dx_schema_text.proofs.Standing.{too_deep_are_sets}
use Rattle.dx_schema_text.proofs.laws.too_deep_are_sets.Goals as goal

pub returns : goal.returns
returns c = too_deep_are_sets

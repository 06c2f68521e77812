use Rattle.dx_model.proofs.ByMembers.{keyed_map_is_empty, no_keys_hold}
use Rattle.dx_model.proofs.laws.keyed_instances.Goals as goal

pub returns-clause-empty : goal.returns-clause-empty
returns-clause-empty c = keyed_map_is_empty

pub returns-clause-none : goal.returns-clause-none
returns-clause-none c = no_keys_hold

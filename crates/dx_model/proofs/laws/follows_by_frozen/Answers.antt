use Rattle.dx_model.proofs.Deciding.{follows_is_decided}
use Rattle.dx_model.proofs.Frozen.{follows_by_frozen, follows_by_prefix}
use Rattle.dx_model.proofs.Pruning.{follows_in_schemas}
use Rattle.dx_model.proofs.laws.follows_by_frozen.Goals as goal

pub returns-clause-frozen : goal.returns-clause-frozen
returns-clause-frozen c = follows_by_frozen

pub returns-clause-prefix : goal.returns-clause-prefix
returns-clause-prefix c = follows_by_prefix

pub returns-clause-schemas : goal.returns-clause-schemas
returns-clause-schemas c = follows_in_schemas

pub returns-clause-decided : goal.returns-clause-decided
returns-clause-decided c = follows_is_decided

use Rattle.dx_model.proofs.ByMembers.{forced_image_stays, uncovered_is_part}
use Rattle.dx_model.proofs.laws.nulls_stay.Goals as goal

pub returns-clause-forced : goal.returns-clause-forced
returns-clause-forced c = forced_image_stays

pub returns-clause-part : goal.returns-clause-part
returns-clause-part c = uncovered_is_part

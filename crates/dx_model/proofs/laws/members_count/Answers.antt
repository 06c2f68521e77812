use Rattle.dx_model.proofs.ByMembers.{forced_map_by_members, none_receives_by_members, universal_by_members, core_by_members, keys_by_members, image_by_members, reduct_by_members}
use Rattle.dx_model.proofs.laws.members_count.Goals as goal

pub returns-clause-forced : goal.returns-clause-forced
returns-clause-forced c = forced_map_by_members

pub returns-clause-received : goal.returns-clause-received
returns-clause-received c = none_receives_by_members

pub returns-clause-universal : goal.returns-clause-universal
returns-clause-universal c = universal_by_members

pub returns-clause-core : goal.returns-clause-core
returns-clause-core c = core_by_members

pub returns-clause-keys : goal.returns-clause-keys
returns-clause-keys c = keys_by_members

pub returns-clause-image : goal.returns-clause-image
returns-clause-image c = image_by_members

pub returns-clause-reduct : goal.returns-clause-reduct
returns-clause-reduct c = reduct_by_members

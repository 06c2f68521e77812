use Rattle.dx_model.proofs.ByMembers as members
use Rattle.dx_model.proofs.laws.maps_join.Goals as goal

pub returns-clause-maps : goal.returns-clause-maps
returns-clause-maps c = members.maps_join

pub returns-clause-images : goal.returns-clause-images
returns-clause-images c = members.moves_follow

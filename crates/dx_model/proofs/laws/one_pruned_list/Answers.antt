use Rattle.dx_model.proofs.Deciding.{pruned_exists}
use Rattle.dx_model.proofs.Pruning.{one_pruned, pruned_implies, implies_each}
use Rattle.dx_model.proofs.laws.one_pruned_list.Goals as goal

pub returns-clause-one : goal.returns-clause-one
returns-clause-one c = one_pruned

pub returns-clause-implies : goal.returns-clause-implies
returns-clause-implies c = pruned_implies

pub returns-clause-each : goal.returns-clause-each
returns-clause-each c = implies_each

pub returns-clause-exists : goal.returns-clause-exists
returns-clause-exists c = pruned_exists

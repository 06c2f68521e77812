use Rattle.dx_used.proofs.UsedLaws.{same_solutions, same_targets, same_universal}
use Rattle.dx_used.proofs.laws.same_solutions_if_they_agree.Goals as goal

pub returns-clause-targets : goal.returns-clause-targets
returns-clause-targets c = same_targets

pub returns-clause-solutions : goal.returns-clause-solutions
returns-clause-solutions c = same_solutions

pub returns-clause-universal : goal.returns-clause-universal
returns-clause-universal c = same_universal

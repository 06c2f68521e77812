use Rattle.dx_model.proofs.Exactly.{more_satisfies, satisfies_itself}
use Rattle.dx_model.proofs.laws.canonical_satisfies.Goals as goal

pub returns-clause-itself : goal.returns-clause-itself
returns-clause-itself c = satisfies_itself

pub returns-clause-more : goal.returns-clause-more
returns-clause-more c = more_satisfies

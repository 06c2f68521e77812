use Rattle.clio_top.proofs.Clashes.{no_solution, of_texts}
use Rattle.clio_top.proofs.laws.clash_exactly_without_solution.Goals as goal

pub returns-clause-clash : goal.returns-clause-clash
returns-clause-clash c = of_texts

pub returns-clause-none : goal.returns-clause-none
returns-clause-none c = no_solution

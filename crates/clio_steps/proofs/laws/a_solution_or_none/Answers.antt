use Rattle.clio_steps.proofs.Solved.{solved_or_not}
use Rattle.clio_steps.proofs.laws.a_solution_or_none.Goals as goal

pub returns : goal.returns
returns c = solved_or_not

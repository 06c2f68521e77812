use Rattle.dx_solver.specs.Domains.{IsFreeTerm}
use Rattle.dx_solver.proofs.choosing.least_choice.Given as goal

abbrev pub invariant-loop-atom : goal.invariant-loop-atom
invariant-loop-atom l = IsFreeTerm l.atoms l.domains l.best.atom l.best.column

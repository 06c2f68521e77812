use Rattle.std.proofs.Common.{◌≡◌, take}
use Rattle.std.specs.Prelude.{map}
use Rattle.dx_solver.specs.Questions.{answered, number_under}
use Rattle.dx_solver.proofs.judging.row_of.Given as goal

abbrev pub invariant-loop-term : goal.invariant-loop-term
invariant-loop-term l = l.row.items ≡ map (number_under (answered l.xs)) (take l.term-index l.terms)

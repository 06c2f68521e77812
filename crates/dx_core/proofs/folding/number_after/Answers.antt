use Rattle.std.proofs.Common.{refl}
use Rattle.dx_solver.specs.declared.atom.Term.TheVariants.{Number, Variable}
use Rattle.dx_core.proofs.folding.number_after.Goals as goal

pub returns-in-Number : goal.returns-in-Number
returns-in-Number c = record { term = Number c.in-Number.own; stands = c.in-Number.ensures; number = refl }

pub returns-in-Variable : goal.returns-in-Variable
returns-in-Variable c = record { term = Variable c.in-Variable.variable; stands = c.in-Variable.ensures; number = refl }

use Rattle.std.proofs.Common.{List, ◌++◌, take, map}
use Rattle.dx_model.specs.declared.rules.Cell.{Cell}
use Rattle.dx_model.specs.declared.rules.Cell.TheVariants.{Var}
use Rattle.dx_used.specs.Counting.{CountsCells}
use Rattle.dx_used.proofs.mentions.add_variables.Given as goal

abbrev pub invariant-loop-variable : goal.invariant-loop-variable
invariant-loop-variable l = (before : List Cell) → CountsCells before l.initial.counts → CountsCells (before ++ map Var (take l.variable-index l.variables)) l.counts

use Rattle.std.proofs.Common.{List, ◌++◌, take, flat_map, map}
use Rattle.dx_model.specs.declared.rules.Cell.{Cell}
use Rattle.dx_model.specs.declared.rules.Cell.TheVariants.{Var}
use Rattle.dx_model.specs.declared.rules.Derived.{Derived}
use Rattle.dx_used.specs.Counting.{CountsCells}
use Rattle.dx_used.proofs.mentions.add_arguments.Given as goal

abbrev pub invariant-loop-conversion : goal.invariant-loop-conversion
invariant-loop-conversion l = (before : List Cell) → CountsCells before l.initial.counts → CountsCells (before ++ flat_map (λ (e : Derived). map Var e.args) (take l.conversion-index l.conversions)) l.counts

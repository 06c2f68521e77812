use Rattle.std.proofs.Common.{◌≡◌, drop}
use Rattle.std.specs.Prelude.{[], eqb}
use Rattle.dx_ways.specs.Tried.{column_of, with_unlike}
use Rattle.dx_ways.proofs.seen.column_variables.Given as goal

abbrev pub invariant-loop-occurrence : goal.invariant-loop-occurrence
invariant-loop-occurrence l = with_unlike eqb l.variables.items (column_of l.place (drop l.occurrence-index l.occurrences)) ≡ with_unlike eqb [] (column_of l.place l.occurrences)

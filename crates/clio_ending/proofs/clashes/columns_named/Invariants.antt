use Rattle.std.proofs.Common.{◌≡◌, take, map}
use Rattle.clio_ending.specs.Ending.{column_text}
use Rattle.clio_ending.proofs.clashes.columns_named.Given as goal

abbrev pub invariant-loop-column : goal.invariant-loop-column
invariant-loop-column l = l.names ≡ map (column_text l.schema l.table) (take l.column-index l.columns)

use Rattle.std.proofs.Common.{◌≡◌, map, take}
use Rattle.dx_model.specs.Tables.{cell}
use Rattle.dx_chase.specs.Joins.{nth}
use Rattle.dx_keys.proofs.reading.read_row.Given as goal

abbrev pub invariant-loop-number : goal.invariant-loop-number
invariant-loop-number l = l.row ≡ map (cell l.symbols) (map (nth l.roots) (take l.number-index l.numbers))

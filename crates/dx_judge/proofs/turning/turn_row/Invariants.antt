use Rattle.std.proofs.Common.{◌≡◌, take}
use Rattle.dx_judge.specs.Turning.{row_turned}
use Rattle.dx_judge.proofs.turning.turn_row.Given as goal

abbrev pub invariant-loop-column : goal.invariant-loop-column
invariant-loop-column l = l.turned.items ≡ row_turned (take l.column-index l.order) l.row

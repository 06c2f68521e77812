use Rattle.std.proofs.Common.{◌≡◌, take}
use Rattle.dx_eval.specs.Keeping.{column_numbers}
use Rattle.dx_eval.proofs.keys.gather.Given as goal

abbrev pub invariant-loop-column : goal.invariant-loop-column
invariant-loop-column l = l.buffer.items ≡ column_numbers (take l.column-index l.columns) l.row

use Rattle.std.proofs.Common.{◌≡◌, length, take}
use Rattle.std.specs.Prelude.{map}
use Rattle.dx_eval.specs.Keeping.{column_numbers}
use Rattle.dx_eval.proofs.keys.keys_of.Given as goal

abbrev pub invariant-loop-place : goal.invariant-loop-place
invariant-loop-place l = record { width : l.keys.width ≡ length l.columns; rows : l.keys.rows ≡ map (column_numbers l.columns) (take l.place l.rows.rows) }

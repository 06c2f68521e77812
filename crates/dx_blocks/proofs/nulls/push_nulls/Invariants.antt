use Rattle.std.proofs.Common.{◌≡◌, ◌++◌, take}
use Rattle.dx_blocks.specs.Nulls.{row_nulls}
use Rattle.dx_blocks.proofs.nulls.push_nulls.Given as goal

abbrev pub invariant-loop-value : goal.invariant-loop-value
invariant-loop-value l = l.nulls.items ≡ l.initial.nulls.items ++ row_nulls (take l.value-index l.row)

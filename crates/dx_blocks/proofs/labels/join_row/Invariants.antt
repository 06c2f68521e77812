use Rattle.std.proofs.Common.{take}
use Rattle.dx_blocks.proofs.Labelling.{RowSoFar}
use Rattle.dx_blocks.proofs.labels.join_row.Given as goal

abbrev pub invariant-loop-value : goal.invariant-loop-value
invariant-loop-value l = RowSoFar l.nulls l.row (take l.value-index l.row) l.first l.initial.parents l.parents

use Rattle.std.proofs.Common.{[], take}
use Rattle.dx_blocks.specs.Labels.{BlocksFilled}
use Rattle.dx_blocks.proofs.grouping.null_blocks.Given as goal

abbrev pub invariant-loop-i : goal.invariant-loop-i
invariant-loop-i l = BlocksFilled l.nulls l.labels (take l.i l.nulls) [] l.blocks.items

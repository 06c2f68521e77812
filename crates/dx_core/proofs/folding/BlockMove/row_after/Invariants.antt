use Rattle.std.proofs.Common.{take}
use Rattle.std.specs.List.{AllZip}
use Rattle.dx_blocks.specs.NullRows.{row_numbers}
use Rattle.dx_core.specs.Asking.{IsNumberAfter}
use Rattle.dx_core.proofs.folding.BlockMove.row_after.Given as goal

abbrev pub invariant-loop-number : goal.invariant-loop-number
invariant-loop-number l = AllZip (IsNumberAfter l.self.block.now.nulls l.self.answer.now) (take l.number-index (row_numbers l.numbers l.fn.at))
    l.after.items

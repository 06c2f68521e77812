use Rattle.std.proofs.Common.{◌-◌, take}
use Rattle.dx_instance.specs.Shown.{shown_row}
use Rattle.dx_blocks.specs.NullRows.{nulls_from}
use Rattle.dx_blocks.proofs.Labelling.{RowSoFar}
use Rattle.dx_blocks.proofs.number_labels.join_row.Given as goal

abbrev pub invariant-loop-number : goal.invariant-loop-number
invariant-loop-number l =
    RowSoFar (nulls_from l.numbers l.first) (shown_row l.numbers.symbols l.row) (take l.number-index (shown_row l.numbers.symbols l.row)) (l.one - l.first)
    l.initial.parents l.parents

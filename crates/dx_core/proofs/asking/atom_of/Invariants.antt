use Rattle.std.proofs.Common.{take}
use Rattle.std.specs.List.{AllZip}
use Rattle.dx_core.specs.Asking.{IsTermOf}
use Rattle.dx_blocks.specs.NullRows.{row_numbers}
use Rattle.dx_core.proofs.asking.atom_of.Given as goal

abbrev pub invariant-loop-number : goal.invariant-loop-number
invariant-loop-number l = AllZip (IsTermOf l.nulls) (take l.number-index (row_numbers l.numbers l.at)) l.terms

use Rattle.std.proofs.Common.{List, ◌++◌, take}
use Rattle.dx_model.specs.declared.rules.Cell.{Cell}
use Rattle.dx_used.specs.Counting.{CountsCells}
use Rattle.dx_used.proofs.mentions.add_cells.Given as goal

abbrev pub invariant-loop-cell : goal.invariant-loop-cell
invariant-loop-cell l = (before : List Cell) → CountsCells before l.initial.counts → CountsCells (before ++ take l.cell-index l.cells) l.counts

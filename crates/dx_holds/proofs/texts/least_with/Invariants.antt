use Rattle.std.proofs.Common.{◌++◌, List, take}
use Rattle.dx_model.specs.declared.rules.Cell.{Cell}
use Rattle.dx_holds.specs.Least.{IsLeast}
use Rattle.dx_holds.proofs.texts.least_with.Given as goal

abbrev pub invariant-loop-cell : goal.invariant-loop-cell
invariant-loop-cell l = (before : List Cell) → IsLeast before l.from l.fn.start → IsLeast (before ++ take l.cell-index l.cells) l.from l.least

use Rattle.std.proofs.Common.{take}
use Rattle.std.specs.List.{AllZip}
use Rattle.dx_model.specs.Following.{frozen_text}
use Rattle.dx_implies.specs.Asking.{SaysCell}
use Rattle.dx_implies.proofs.asking.terms_of.Given as goal

abbrev pub invariant-loop-cell : goal.invariant-loop-cell
invariant-loop-cell l = AllZip (SaysCell l.numbers.symbols (frozen_text l.prefix)) (take l.cell-index l.cells) l.terms

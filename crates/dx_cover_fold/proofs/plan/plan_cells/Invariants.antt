use Rattle.std.proofs.Common.{take}
use Rattle.std.specs.List.{AllZip}
use Rattle.dx_cover_fold.specs.Codes.{IsPlanned}
use Rattle.dx_cover_fold.proofs.plan.plan_cells.Given as goal

abbrev pub invariant-loop-cell : goal.invariant-loop-cell
invariant-loop-cell l = AllZip (IsPlanned l.matches.symbols l.variables l.width) (take l.cell-index l.cells) l.plan.items

use Rattle.std.proofs.Common.{take}
use Rattle.std.specs.List.{AllZip}
use Rattle.dx_instance.specs.Numbers.{Extends}
use Rattle.dx_tgd.specs.Planned.{IsCellPlan}
use Rattle.dx_tgd.proofs.planning.planned_cells.Given as goal

abbrev pub invariant-loop-cell : goal.invariant-loop-cell
invariant-loop-cell l = record { planned : AllZip (IsCellPlan l.symbols l.at.rule l.at.variables.now l.at.places) l.planned.items (take l.cell-index l.cells); grows : Extends l.fn.symbols l.symbols }

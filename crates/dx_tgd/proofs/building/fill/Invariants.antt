use Rattle.std.proofs.Common.{◌≡◌, take}
use Rattle.std.specs.Prelude.{map}
use Rattle.dx_tgd.specs.Planned.{planned_number}
use Rattle.dx_tgd.proofs.building.fill.Given as goal

abbrev pub invariant-loop-cell : goal.invariant-loop-cell
invariant-loop-cell l = l.buffer.items ≡ map (planned_number l.row l.place) (take l.cell-index l.cells)

use Rattle.std.proofs.Common.{◌≡◌, map, take}
use Rattle.dx_tgd_text.specs.Reading.{cell_of}
use Rattle.dx_tgd_text.proofs.atoms.read_cells.Given as goal

abbrev pub invariant-loop-cell : goal.invariant-loop-cell
invariant-loop-cell l = l.read ≡ map (cell_of l.known l.fresh) (take l.cell-index l.cells)

use Rattle.std.proofs.Common.{◌≡◌, take, map, slice_index}
use Rattle.dx_instance.proofs.cells.Rows.renumbered.Given as goal

abbrev pub invariant-loop-cell : goal.invariant-loop-cell
invariant-loop-cell l = l.cells.items ≡ map (slice_index l.ranks) (take l.cell-index l.cell-items)

use Rattle.std.proofs.Common.{◌≡◌, ◌*◌, length, map, take}
use Rattle.dx_instance.specs.Cells.{rows_of_cells}
use Rattle.dx_instance.specs.Keys.{unpacked}
use Rattle.dx_instance.proofs.cells.Rows.unpacked_rows.Given as goal

abbrev pub invariant-loop-key : goal.invariant-loop-key
invariant-loop-key l = record {
  many : length l.cells.items ≡ l.key-index * l.packing.width;
  rows : rows_of_cells l.key-index l.packing.width l.cells.items ≡ map (unpacked l.packing.bits l.packing.width) (take l.key-index l.keys);
}

use Rattle.std.proofs.Common.{◌≡◌, ◌^◌, map, take}
use Rattle.dx_instance.specs.Keys.{packed}
use Rattle.dx_instance.proofs.cells.Rows.packed_rows.Given as goal

abbrev pub invariant-loop-place : goal.invariant-loop-place
invariant-loop-place l = l.keys.items ≡ map (packed (2 ^ l.packing.bits) l.packing.width 0) (take l.place l.self.rows)

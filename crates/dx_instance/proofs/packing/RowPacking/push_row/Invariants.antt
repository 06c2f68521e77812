use Rattle.std.proofs.Common.{◌≡◌, ◌++◌, ◌-◌}
use Rattle.dx_instance.specs.Keys.{unpacked}
use Rattle.dx_instance.proofs.packing.RowPacking.push_row.Given as goal

abbrev pub invariant-loop-i : goal.invariant-loop-i
invariant-loop-i l = l.cells.items ++ unpacked l.self.bits (l.self.width - l.i) l.key ≡ l.initial.cells.items ++ unpacked l.self.bits l.self.width l.key

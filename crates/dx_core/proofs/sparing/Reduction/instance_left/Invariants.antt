use Rattle.dx_core.proofs.Kept.{AreTablesLeft}
use Rattle.dx_core.proofs.sparing.Reduction.instance_left.Given as goal

abbrev pub invariant-loop-table : goal.invariant-loop-table
invariant-loop-table l = AreTablesLeft l.self.taken l.self.numbers.tables l.table l.tables.items

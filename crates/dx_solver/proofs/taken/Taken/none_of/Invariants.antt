use Rattle.std.proofs.Common.{◌≡◌, take}
use Rattle.dx_solver.specs.Marks.{none_out}
use Rattle.dx_solver.proofs.Marks.{seen}
use Rattle.dx_solver.proofs.taken.Taken.none_of.Given as goal

abbrev pub invariant-loop-table : goal.invariant-loop-table
invariant-loop-table l = seen l.tables.items ≡ take l.table (none_out l.numbers.tables)

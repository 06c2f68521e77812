use Rattle.std.proofs.Common.{◌≡◌}
use Rattle.dx_instance.proofs.sorted.Sorted.index_all.Given as goal

abbrev pub invariant-loop-column : goal.invariant-loop-column
invariant-loop-column l = l.self ≡ l.fn.self

abbrev pub invariant-loop-table : goal.invariant-loop-table
invariant-loop-table l = l.self ≡ l.fn.self

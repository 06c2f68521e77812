use Rattle.std.proofs.Common.{◌≡◌, ◌++◌}
use Rattle.std.specs.Vec.Iter.{into_iter_items}
use Rattle.dx_instance.proofs.instance.rows_alone.Given as goal

abbrev pub invariant-loop-table : goal.invariant-loop-table
invariant-loop-table l = l.all.items ++ into_iter_items l.table-iterator ≡ into_iter_items l.initial.table-iterator

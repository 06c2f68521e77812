use Rattle.std.proofs.Common.{◌≡◌, ◌++◌, List}
use Rattle.std.specs.List.{AllZip}
use Rattle.std.specs.Vec.Iter.{into_iter_items}
use Rattle.dx_instance.specs.Cells.{IsPut, NumberTable}
use Rattle.dx_instance.proofs.sorted.put_all.Given as goal

-- the first rows were put in order
abbrev pub invariant-loop-rows : goal.invariant-loop-rows
invariant-loop-rows l = (done : List NumberTable) × (done ++ into_iter_items l.rows-iterator ≡ into_iter_items l.initial.rows-iterator) × AllZip IsPut done l.all.items

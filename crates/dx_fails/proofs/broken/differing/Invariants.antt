use Rattle.std.proofs.Common.{◌≡◌, map, take}
use Rattle.dx_instance.specs.Places.{value_at}
use Rattle.dx_fails.proofs.broken.differing.Given as goal

abbrev pub invariant-loop-column : goal.invariant-loop-column
invariant-loop-column l =
    map (value_at l.instance l.table l.right) (take l.column-index l.columns)
    ≡ map (value_at l.instance l.table l.left) (take l.column-index l.columns)

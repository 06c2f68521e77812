use Rattle.std.proofs.Common.{◌≡◌, map, take}
use Rattle.dx_instance.specs.Shown.{renumbered}
use Rattle.dx_keys.proofs.reading.at_roots.Given as goal

abbrev pub invariant-loop-rows : goal.invariant-loop-rows
invariant-loop-rows l = l.all.items ≡ map (renumbered l.roots) (take l.rows-index l.rows-items)

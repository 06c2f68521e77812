use Rattle.std.proofs.Common.{◌≡◌, take, map}
use Rattle.dx_instance.specs.Shown.{renumbered}
use Rattle.dx_instance.proofs.instance.row_images.Given as goal

abbrev pub invariant-loop-table : goal.invariant-loop-table
invariant-loop-table l = l.all.items ≡ map (renumbered l.images) (take l.table-index l.tables)

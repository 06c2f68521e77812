use Rattle.std.proofs.Common.{◌≡◌, map, take}
use Rattle.dx_instance.specs.Shown.{renumbered}
use Rattle.dx_keys.proofs.numbering.ranked.Given as goal

abbrev pub invariant-loop-table : goal.invariant-loop-table
invariant-loop-table l = l.all.items ≡ map (renumbered l.ranks) (take l.table l.numbers.tables)

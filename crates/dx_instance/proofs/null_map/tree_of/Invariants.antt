use Rattle.std.proofs.Common.{◌≡◌, ◌≤◌, drop, length}
use Rattle.dx_instance.specs.NullMaps.{NoneIsItself, entries_in, map_of_entries}
use Rattle.dx_instance.proofs.null_map.tree_of.Given as goal

abbrev pub invariant-loop-left : goal.invariant-loop-left
invariant-loop-left l = record {
  within : l.left ≤ length l.pairs;
  same : map_of_entries l.tree.entries ≡ map_of_entries (entries_in (drop l.left l.pairs));
  proper : NoneIsItself l.tree.entries;
}

abbrev pub decreases-loop-left : goal.decreases-loop-left
decreases-loop-left l = l.left

use Rattle.std.proofs.Common.{◌≡◌, ◌++◌, map, length}
use Rattle.std.specs.Vec.Iter.{into_iter_items}
use Rattle.dx_base.specs.Members.{Each}
use Rattle.dx_instance.specs.Shown.{NumberRowsFit, renumbered}
use Rattle.dx_instance.proofs.sorted.all_renumbered.Given as goal

abbrev pub invariant-loop-rows : goal.invariant-loop-rows
invariant-loop-rows l = record {
  all : l.all.items ++ map (renumbered l.ranks) (into_iter_items l.rows-iterator) ≡ map (renumbered l.ranks) (into_iter_items l.initial.rows-iterator);
  fit : Each (into_iter_items l.rows-iterator) (NumberRowsFit (length l.ranks));
}

use Rattle.std.proofs.Common.{◌≡◌, ◌++◌, map}
use Rattle.std.specs.Vec.Iter.{into_iter_items}
use Rattle.dx_instance.specs.NullMaps.{pair_after}
use Rattle.dx_instance.proofs.null_map.NullMap.images.Given as goal

abbrev pub invariant-loop-pair : goal.invariant-loop-pair
invariant-loop-pair l = l.all.items ++ map (pair_after l.self) (into_iter_items l.pair-iterator) ≡ map (pair_after l.self) (into_iter_items l.initial.pair-iterator)

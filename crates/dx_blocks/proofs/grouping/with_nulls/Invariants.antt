use Rattle.std.proofs.Common.{◌≡◌, ◌++◌}
use Rattle.std.specs.List.{filter}
use Rattle.std.specs.Vec.Iter.{into_iter_items}
use Rattle.dx_blocks.specs.Labels.{has_nulls}
use Rattle.dx_blocks.proofs.grouping.with_nulls.Given as goal

abbrev pub invariant-loop-block : goal.invariant-loop-block
invariant-loop-block l =
    l.kept.items ++ filter has_nulls (into_iter_items l.block-iterator) ≡ filter has_nulls (into_iter_items l.initial.block-iterator)

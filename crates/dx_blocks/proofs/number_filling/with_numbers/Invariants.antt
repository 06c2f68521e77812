use Rattle.std.proofs.Common.{◌≡◌, ◌++◌}
use Rattle.std.specs.List.{filter}
use Rattle.std.specs.Vec.Iter.{into_iter_items}
use Rattle.dx_blocks.specs.NullRows.{has_numbers}
use Rattle.dx_blocks.proofs.number_filling.with_numbers.Given as goal

abbrev pub invariant-loop-block : goal.invariant-loop-block
invariant-loop-block l =
    l.kept.items ++ filter has_numbers (into_iter_items l.block-iterator) ≡ filter has_numbers (into_iter_items l.initial.block-iterator)

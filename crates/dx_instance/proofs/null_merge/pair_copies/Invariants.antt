use Rattle.std.proofs.Common.{◌≡◌, take}
use Rattle.dx_instance.proofs.null_merge.pair_copies.Given as goal

abbrev pub invariant-loop-pair : goal.invariant-loop-pair
invariant-loop-pair l = l.copies.items ≡ take l.pair-index l.pairs

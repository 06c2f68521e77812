use Rattle.std.proofs.Common.{◌≡◌, ◌++◌, take}
use Rattle.dx_joins.specs.Looking.{numbers_at_places}
use Rattle.dx_joins.proofs.pairs.gather.Given as goal

abbrev pub invariant-loop-place : goal.invariant-loop-place
invariant-loop-place l = l.buffer.items ≡ numbers_at_places (l.left ++ l.right) (take l.place-index l.places)

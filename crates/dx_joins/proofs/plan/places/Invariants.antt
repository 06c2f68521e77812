use Rattle.std.proofs.Common.{◌≡◌, take}
use Rattle.std.specs.Prelude.{map}
use Rattle.dx_joins.specs.Planning.{first_place}
use Rattle.dx_joins.proofs.plan.places.Given as goal

abbrev pub invariant-loop-x : goal.invariant-loop-x
invariant-loop-x l = l.places.items ≡ map (first_place l.names) (take l.x-index l.variables)

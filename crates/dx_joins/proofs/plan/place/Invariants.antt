use Rattle.std.proofs.Common.{◌≡◌, ◌+◌, drop}
use Rattle.dx_base.specs.Members.{◌∈◌}
use Rattle.dx_joins.specs.Planning.{first_place}
use Rattle.dx_joins.proofs.plan.place.Given as goal

abbrev pub invariant-loop-i : goal.invariant-loop-i
invariant-loop-i l = record {
  listed : l.x ∈ drop l.i l.names;
  is : first_place l.names l.x ≡ l.i + first_place (drop l.i l.names) l.x;
}

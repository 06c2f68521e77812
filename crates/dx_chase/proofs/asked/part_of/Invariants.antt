use Rattle.std.proofs.Common.{◌<◌, ◌≤◌, ◌-◌, length}
use Rattle.dx_chase.specs.Parts.{chase_part_at}
use Rattle.dx_chase.proofs.asked.part_of.Given as goal

abbrev pub invariant-finding : goal.invariant-finding
invariant-finding l = record {
  less : l.low < l.high;
  inside : l.high ≤ length l.parts;
  from : (chase_part_at l.parts l.low).first ≤ l.i;
  to : l.high < length l.parts → l.i < (chase_part_at l.parts l.high).first;
}

abbrev pub decreases-finding : goal.decreases-finding
decreases-finding l = l.high - l.low

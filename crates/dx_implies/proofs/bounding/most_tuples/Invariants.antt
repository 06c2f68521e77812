use Rattle.std.proofs.Common.{◌≡◌, ◌<◌, ◌^◌}
use Rattle.dx_implies.proofs.bounding.most_tuples.Given as goal

abbrev pub invariant-loop : goal.invariant-loop
invariant-loop l = record {
  is : l.most ≡ l.texts ^ l.counter;
  small : l.most < 2 ^ 32;
}

use Rattle.std.proofs.Common.{◌≤◌, length}
use Rattle.dx_hom.proofs.Placing.{MadeFrom}
use Rattle.dx_hom.proofs.find.Search.map.Given as goal

abbrev pub decreases-loop-left : goal.decreases-loop-left
decreases-loop-left l = l.left

abbrev pub invariant-loop-left : goal.invariant-loop-left
invariant-loop-left l = record {
  within : l.left ≤ length l.self-inside.found.cells;
  made : MadeFrom l.into l.self-inside.found.cells l.left l.map;
}

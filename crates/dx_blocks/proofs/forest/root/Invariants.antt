use Rattle.dx_blocks.proofs.Trees.{Climbs}
use Rattle.dx_blocks.proofs.forest.root.Given as goal

abbrev pub invariant-climbing : goal.invariant-climbing
invariant-climbing l = Climbs l.initial.parents l.parents l.number l.found

abbrev pub decreases-climbing : goal.decreases-climbing
decreases-climbing l = l.found

use Rattle.std.proofs.Common.{◌≡◌, take}
use Rattle.dx_schema.specs.Forest.{forest_of, forest_size}
use Rattle.dx_compare.proofs.same.+same_trees.Given as goal

abbrev pub invariant-loop-i : goal.invariant-loop-i
invariant-loop-i l = take l.i l.first ≡ take l.i l.second

abbrev pub decreases-same_trees : goal.decreases-same_trees
decreases-same_trees l = forest_size (forest_of l.first.now)

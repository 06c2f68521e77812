use Rattle.dx_blocks.specs.Forest.{SameTrees}
use Rattle.dx_blocks.proofs.Trees.{FlatTo}
use Rattle.dx_blocks.proofs.forest.flatten.Given as goal

abbrev pub invariant-loop-i : goal.invariant-loop-i
invariant-loop-i l = SameTrees l.initial.parents l.parents × FlatTo l.i l.parents

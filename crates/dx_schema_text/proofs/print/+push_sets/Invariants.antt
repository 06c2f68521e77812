use Rattle.std.proofs.Common.{◌≡◌, ◌++◌, take}
use Rattle.std.specs.Prelude.{string_bytes}
use Rattle.dx_schema.specs.Forest.{forest_of, forest_size}
use Rattle.dx_schema_text.specs.Print.{printed}
use Rattle.dx_schema_text.proofs.print.+push_sets.Given as goal

abbrev pub invariant-loop-tree : goal.invariant-loop-tree
invariant-loop-tree l = string_bytes l.out ≡ string_bytes l.fn.out ++ printed l.margin (forest_of (take l.tree-index l.trees))

abbrev pub decreases-push_sets : goal.decreases-push_sets
decreases-push_sets l = forest_size (forest_of l.trees.now)

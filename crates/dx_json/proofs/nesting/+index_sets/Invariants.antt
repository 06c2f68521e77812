use Rattle.std.proofs.Common.{◌≡◌, ◌+◌, drop}
use Rattle.dx_schema.specs.Forest.{forest_of, forest_size}
use Rattle.dx_schema.specs.Tables.{count}
use Rattle.dx_json.specs.Standing.{Stand}
use Rattle.dx_json.proofs.nesting.+index_sets.Given as goal

abbrev pub invariant-loop-tree : goal.invariant-loop-tree
invariant-loop-tree l = record {
  same : l.instance ≡ l.fn.instance;
  room : l.first + count l.sets ≡ l.table + count (forest_of (drop l.tree-index l.tree-items));
  stand : Stand l.instance l.table (forest_of (drop l.tree-index l.tree-items));
}

abbrev pub decreases-index_sets : goal.decreases-index_sets
decreases-index_sets l = forest_size l.sets.now

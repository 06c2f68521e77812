use Rattle.std.proofs.Common.{◌≡◌, map, take}
use Rattle.dx_schema.specs.Nodes.{node_view}
use Rattle.dx_schema.specs.Tables.{dep_named}
use Rattle.dx_schema.proofs.tables.deps_made.Given as goal

abbrev pub invariant-loop-dep : goal.invariant-loop-dep
invariant-loop-dep l = l.deps ≡ map (dep_named (node_view l.node)) (take l.dep-index l.dep-items)

use Rattle.std.proofs.Common.{◌≡◌, map, drop}
use Rattle.dx_schema.specs.Nodes.{node_view}
use Rattle.dx_base.specs.Firsts.{first_of}
use Rattle.dx_schema.specs.Faults.{dep_fault}
use Rattle.dx_schema.proofs.checks.deps_checked.Given as goal

abbrev pub invariant-loop-dep : goal.invariant-loop-dep
invariant-loop-dep l = first_of (map (dep_fault (node_view l.node)) l.dep-items) ≡ first_of (map (dep_fault (node_view l.node)) (drop l.dep-index l.dep-items))

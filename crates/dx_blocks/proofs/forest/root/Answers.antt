use Rattle.dx_blocks.proofs.Trees.{same_trees, in_own_tree, climbs_on, climbs_down}
use Rattle.dx_blocks.proofs.forest.root.Goals as goal

pub climbing-init : goal.climbing-init
climbing-init c = (
  same_trees c.args.parents.now c.requires.falls,
  in_own_tree c.args.parents.now c.args.number c.requires.number,
)

pub climbing-preserved : goal.climbing-preserved
climbing-preserved c = climbs_on c.args.parents.now c.climbing.parents c.args.number c.climbing.found c.climbing.invariant

pub climbing-smaller : goal.climbing-smaller
climbing-smaller c =
    climbs_down c.args.parents.now c.climbing.parents c.args.number c.climbing.found c.climbing.invariant c.climbing-test.true

use Rattle.std.proofs.Common.{arith}
use Rattle.dx_blocks.proofs.Trees.{joined_below, joined_above}
use Rattle.dx_blocks.proofs.forest.join.Goals as goal

pub returns-then-x-y : goal.returns-then-x-y
returns-then-x-y c =
    joined_below c.args.parents.now c.root-x.new.parents c.root-y.new.parents c.args.a c.args.b c.root-x.result c.root-y.result
    c.root-x.ensures.trees c.root-x.ensures.root c.root-y.ensures.trees c.root-y.ensures.root (omega arith)

pub returns-else-x-y : goal.returns-else-x-y
returns-else-x-y c =
    joined_above c.args.parents.now c.root-x.new.parents c.root-y.new.parents c.args.a c.args.b c.root-x.result c.root-y.result
    c.root-x.ensures.trees c.root-x.ensures.root c.root-y.ensures.trees c.root-y.ensures.root (omega arith)

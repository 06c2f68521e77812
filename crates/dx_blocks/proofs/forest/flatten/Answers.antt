use Rattle.std.proofs.Common.{arith}
use Rattle.dx_blocks.proofs.Trees.{flat_more}
use Rattle.dx_blocks.proofs.forest.flatten.Goals as goal

pub loop-i-preserved : goal.loop-i-preserved
loop-i-preserved c =
    let i = c.loop-i.invariant in
    flat_more c.args.parents.now c.loop-i.parents c.loop-i.i i.0 (omega arith) i.1

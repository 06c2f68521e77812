use Rattle.std.proofs.Common.{◌++◌, length}
use Rattle.dx_instance.proofs.MergeFacts.{IsMerging}
use Rattle.dx_instance.proofs.null_merge.merged.Given as goal

abbrev pub invariant-loop-turn : goal.invariant-loop-turn
invariant-loop-turn l = IsMerging l.first l.second l.all.items l.rest l.others

abbrev pub decreases-loop-turn : goal.decreases-loop-turn
decreases-loop-turn l = length (l.rest ++ l.others)

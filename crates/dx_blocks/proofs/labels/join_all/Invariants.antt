use Rattle.std.proofs.Common.{take}
use Rattle.dx_blocks.proofs.Labelling.{AllSoFar}
use Rattle.dx_blocks.proofs.labels.join_all.Given as goal

abbrev pub invariant-loop-fact : goal.invariant-loop-fact
invariant-loop-fact l = AllSoFar l.facts (take l.fact-index l.facts) l.nulls l.initial.parents l.parents

use Rattle.std.proofs.Common.{take}
use Rattle.dx_blocks.specs.NullRows.{facts_of, nulls_from}
use Rattle.dx_blocks.proofs.Labelling.{AllSoFar}
use Rattle.dx_blocks.proofs.number_labels.join_all.Given as goal

abbrev pub invariant-loop-at : goal.invariant-loop-at
invariant-loop-at l =
    AllSoFar (facts_of l.numbers l.rows) (take l.at-index (facts_of l.numbers l.rows)) (nulls_from l.numbers l.first) l.initial.parents l.parents

use Rattle.std.proofs.Common.{◌≡◌, ◌++◌, List}
use Rattle.std.specs.Vec.Iter.{into_iter_items}
use Rattle.dx_model.specs.declared.facts.Fact.{Fact}
use Rattle.dx_blocks.specs.Labels.{BlocksFilled}
use Rattle.dx_blocks.proofs.grouping.place_facts.Given as goal

abbrev pub invariant-loop-fact : goal.invariant-loop-fact
invariant-loop-fact l =
    (done : List Fact) × (done ++ into_iter_items l.fact-iterator ≡ into_iter_items l.initial.fact-iterator)
    × BlocksFilled l.nulls l.labels l.nulls done l.blocks

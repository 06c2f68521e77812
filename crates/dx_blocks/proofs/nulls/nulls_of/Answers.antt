use Rattle.std.proofs.Common.{List, ◌∙◌, ap}
use Rattle.std.proofs.lemmas.List.{take_all}
use Rattle.dx_model.specs.declared.facts.Fact.{Fact}
use Rattle.dx_model.specs.Instances.{values}
use Rattle.dx_blocks.specs.Nulls.{row_nulls}
use Rattle.dx_blocks.proofs.NullLists.{nulls_are}
use Rattle.dx_blocks.proofs.nulls.nulls_of.Goals as goal

pub returns : goal.returns
returns c =
    nulls_are c.args.facts.now c.loop-fact.nulls.items c.sort_unstable.new.self.items c.dedup.new.self.items
    (c.loop-fact.invariant
    ∙ ap (λ (A : List Fact). row_nulls (values A)) (take_all c.loop-fact.fact-index c.args.facts.now c.loop-fact-test.false))
    c.sort_unstable.ensures.permutation c.sort_unstable.ensures.sorted c.dedup.ensures.filtered

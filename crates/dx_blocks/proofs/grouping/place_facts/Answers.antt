use Rattle.std.proofs.Common.{refl}
use Rattle.dx_model.specs.declared.facts.Fact.{Fact}
use Rattle.dx_base.proofs.Members.{in_flat_map}
use Rattle.dx_blocks.proofs.Filling.{is_there, step_passed, step_filled}
use Rattle.dx_blocks.proofs.grouping.place_facts.Goals as goal

pub first_place-requires : goal.first_place-requires
first_place-requires c = record {
  ascend = c.requires.labelled.nulls.ascend;
  known = λ n m. (c.requires.labelled.nulls.exactly n).1 (in_flat_map (λ (f : Fact). f.row)
      (is_there c.args.facts.items c.args.nulls.now c.args.labels.now c.loop-fact.blocks _ _ _ c.in-Some.fact c.loop-fact.invariant
      c.in-Some.ensures.steps.0 c.into_iter-fact-iterator.ensures.into_iter_gives.0) (rw c.items.ensures at m));
}

pub loop-fact-preserved-in-Continue-1 : goal.loop-fact-preserved-in-Continue-1
loop-fact-preserved-in-Continue-1 c =
    step_filled c.args.facts.items c.args.nulls.now c.args.labels.now c.loop-fact.blocks _ _ _ c.in-Some.fact c.loop-fact.invariant
    c.in-Some.ensures.steps.0 c.into_iter-fact-iterator.ensures.into_iter_gives.0
    c.in-Some-first_place.place _ c.index-blocks-labels.result c.requires.labelled.labels c.requires.ascend
    (rw c.items.ensures at c.in-Some-first_place.ensures.some) c.index-blocks-labels.is c.in_ok-push.ensures.ok refl

pub loop-fact-preserved-in_default : goal.loop-fact-preserved-in_default
loop-fact-preserved-in_default c =
    step_passed c.args.facts.items c.args.nulls.now c.args.labels.now c.loop-fact.blocks _ _ _ c.in-Some.fact c.loop-fact.invariant
    c.in-Some.ensures.steps.0 c.into_iter-fact-iterator.ensures.into_iter_gives.0 (rw c.items.ensures at c.in_default.ensures.none)

pub loop-fact-preserved : goal.loop-fact-preserved
loop-fact-preserved c =
    step_passed c.args.facts.items c.args.nulls.now c.args.labels.now c.loop-fact.blocks _ _ _ c.in-Some.fact c.loop-fact.invariant
    c.in-Some.ensures.steps.0 c.into_iter-fact-iterator.ensures.into_iter_gives.0 (rw c.items.ensures at c.in_default.ensures.none)

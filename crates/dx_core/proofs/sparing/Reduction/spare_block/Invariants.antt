use Rattle.std.proofs.Common.{◌≡◌, false, map, take}
use Rattle.dx_base.specs.Members.{◌∈◌, Each}
use Rattle.dx_model.specs.declared.facts.Fact.{Fact}
use Rattle.dx_model.specs.Blocks.{IsEquivalentPart}
use Rattle.dx_blocks.specs.Numbered.{fact_of, shown_block}
use Rattle.dx_core.specs.Asking.{KnownAreRigid}
use Rattle.dx_core.specs.Left.{facts_left}
use Rattle.dx_core.specs.Sparing.{NeededIn}
use Rattle.dx_core.proofs.sparing.Reduction.spare_block.Given as goal

abbrev pub invariant-loop-at : goal.invariant-loop-at
invariant-loop-at l = record {
  numbers : l.self.numbers ≡ l.fn.self.numbers;
  reduct : IsEquivalentPart (facts_left l.fn.self.numbers l.fn.self.taken) (facts_left l.fn.self.numbers l.self.taken);
  needed : Each (map (fact_of l.fn.self.numbers) (take l.at-index l.block.rows)) (NeededIn (facts_left l.fn.self.numbers l.self.taken));
  block : l.task.block.now ≡ l.block;
  known : KnownAreRigid l.fn.self.numbers (facts_left l.fn.self.numbers l.self.taken) l.block.nulls l.task.known.items;
  others : (f : Fact) → f ∈ facts_left l.fn.self.numbers l.fn.self.taken → ¬ (f ∈ (shown_block l.fn.self.numbers l.block).facts)
      → f ∈ facts_left l.fn.self.numbers l.self.taken;
  same : l.spared ≡ false → l.self.taken ≡ l.fn.self.taken;
}

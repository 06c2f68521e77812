use Rattle.std.proofs.Common.{◌≡◌, map, vec_len}
use Rattle.dx_base.specs.Members.{Each}
use Rattle.dx_model.specs.Blocks.{IsEquivalentPart}
use Rattle.dx_instance.specs.Stored.{facts}
use Rattle.dx_blocks.specs.Numbered.{shown_block}
use Rattle.dx_core.specs.Left.{facts_left, shown_by}
use Rattle.dx_core.specs.Sparing.{IsLeftOrIn, IsTried}
use Rattle.dx_core.proofs.Passed.{AreNeeded}
use Rattle.dx_core.proofs.sparing.Reduction.spare_blocks.Given as goal

abbrev pub decreases-loop-block : goal.decreases-loop-block
decreases-loop-block l = vec_len l.left

abbrev pub invariant-loop-block : goal.invariant-loop-block
invariant-loop-block l = record {
  numbers : l.self.numbers ≡ l.fn.self.numbers;
  reduct : IsEquivalentPart (facts (shown_by l.fn.self.numbers)) (facts_left l.fn.self.numbers l.self.taken);
  tried : Each l.left.items (IsTried l.fn.self.numbers);
  changed : Each l.changed.items (IsTried l.fn.self.numbers);
  needed : AreNeeded (map (shown_block l.fn.self.numbers) l.fn.blocks.items) (map (shown_block l.fn.self.numbers) l.left.items)
      (facts_left l.fn.self.numbers l.self.taken);
  rest : Each (facts (shown_by l.fn.self.numbers))
      (IsLeftOrIn (facts_left l.fn.self.numbers l.self.taken) (map (shown_block l.fn.self.numbers) l.changed.items));
}

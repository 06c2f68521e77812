use Rattle.std.proofs.Common.{◌≡◌}
use Rattle.std.specs.Prelude.{vec_len}
use Rattle.dx_base.specs.Members.{Each}
use Rattle.dx_blocks.specs.Numbered.{IsRowIn}
use Rattle.dx_core.specs.Sparing.{with_back}
use Rattle.dx_core.proofs.sparing.Reduction.put_left.Given as goal

abbrev pub decreases-loop-at : goal.decreases-loop-at
decreases-loop-at l = vec_len l.left

abbrev pub invariant-loop-at : goal.invariant-loop-at
invariant-loop-at l = record {
  numbers : l.self.numbers ≡ l.fn.self.numbers;
  there : Each l.left.items (IsRowIn l.fn.self.numbers);
  back : with_back l.self.taken l.left.items ≡ with_back l.fn.self.taken l.fn.gone.items;
}

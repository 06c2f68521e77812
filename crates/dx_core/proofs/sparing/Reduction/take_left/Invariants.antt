use Rattle.std.proofs.Common.{◌≡◌}
use Rattle.dx_core.proofs.RowsAway.{AreGone}
use Rattle.dx_core.proofs.sparing.Reduction.take_left.Given as goal

abbrev pub invariant-loop-at : goal.invariant-loop-at
invariant-loop-at l = record {
  numbers : l.self.numbers ≡ l.fn.self.numbers;
  rows : AreGone l.fn.self.numbers l.rows l.fn.self.taken l.self.taken l.gone.items l.at-index;
}

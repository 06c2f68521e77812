use Rattle.std.proofs.Common.{◌≡◌}
use Rattle.dx_core.proofs.Folded.{AreBack}
use Rattle.dx_core.proofs.sparing.Reduction.put_all.Given as goal

abbrev pub invariant-loop-at : goal.invariant-loop-at
invariant-loop-at l = record {
  numbers : l.self.numbers ≡ l.fn.self.numbers;
  rows : AreBack l.fn.self.numbers l.rows l.fn.self.taken l.self.taken l.at-index;
}

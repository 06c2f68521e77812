use Rattle.std.proofs.Common.{◌+◌, arith}
use Rattle.dx_implies.proofs.pruning.prune.Goals as goal

pub pruned-requires-clause-rules : goal.pruned-requires-clause-rules
pruned-requires-clause-rules c = λ d m. record {
  fits = c.requires.fits d m;
  clean = rw c.in_ok-prefix.ensures (c.marks_in-most.ensures.clean (c.marks_in-most.result + 1) (omega arith) d (rw c.as_slice.ensures.value m));
}

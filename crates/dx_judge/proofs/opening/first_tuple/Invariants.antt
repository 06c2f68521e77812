use Rattle.std.proofs.Common.{◌<◌, ℕ}
use Rattle.dx_instance.specs.Stored.{facts}
use Rattle.dx_judge.specs.Open.{TupleHolds, nth_tuple}
use Rattle.dx_judge.proofs.opening.first_tuple.Given as goal

abbrev pub invariant-loop-place : goal.invariant-loop-place
invariant-loop-place l = (k : ℕ) → k < l.place → TupleHolds l.rule (facts l.given.plain.now) (nth_tuple l.places.tuples k)

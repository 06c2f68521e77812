use Rattle.std.proofs.Common.{◌≤◌, ◌<◌, length}
use Rattle.std.specs.Prelude.{IfSome}
use Rattle.dx_hom.proofs.candidates.only_with_constant.Given as goal

abbrev pub invariant-loop-place : goal.invariant-loop-place
invariant-loop-place l = IfSome l.only (λ p. (l.left.start ≤ p) × (p < length l.left.order.now))

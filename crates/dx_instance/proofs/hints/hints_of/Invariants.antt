use Rattle.std.proofs.Common.{◌≡◌, length}
use Rattle.dx_instance.proofs.hints.hints_of.Given as goal

abbrev pub invariant-loop-key : goal.invariant-loop-key
invariant-loop-key l = length l.hints.items ≡ length l.yielded

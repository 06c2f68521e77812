use Rattle.std.proofs.Common.{◌≡◌, ◌+◌, drop, eqb}
use Rattle.std.specs.List.{position_or_len}
use Rattle.dx_scriptgen.proofs.inserts.position.Given as goal

abbrev pub invariant-loop-place : goal.invariant-loop-place
invariant-loop-place l = l.place + position_or_len (eqb l.number) (drop l.place l.numbers) ≡ position_or_len (eqb l.number) l.numbers

use Rattle.std.proofs.Common.{◌≡◌, take}
use Rattle.dx_chase.specs.Mixing.{mixed}
use Rattle.dx_chase.proofs.numbers.mix.Given as goal

abbrev pub invariant-loop-number : goal.invariant-loop-number
invariant-loop-number l = l.all ≡ mixed (take l.number-index l.numbers)

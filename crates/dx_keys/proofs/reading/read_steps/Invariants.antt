use Rattle.std.proofs.Common.{◌≡◌, take}
use Rattle.dx_keys.specs.Numbers.{steps_of}
use Rattle.dx_keys.proofs.reading.read_steps.Given as goal

abbrev pub invariant-loop-step : goal.invariant-loop-step
invariant-loop-step l = l.all.items ≡ steps_of l.symbols (take l.step-index l.steps)

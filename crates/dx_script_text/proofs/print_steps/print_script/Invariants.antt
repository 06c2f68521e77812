use Rattle.std.proofs.Common.{◌≡◌, take, flat_map}
use Rattle.std.specs.Prelude.{string_bytes}
use Rattle.dx_script_text.specs.Print.{step_text}
use Rattle.dx_script_text.proofs.print_steps.print_script.Given as goal

abbrev pub invariant-loop-step : goal.invariant-loop-step
invariant-loop-step l = string_bytes l.out ≡ flat_map step_text (take l.step-index l.step-items)

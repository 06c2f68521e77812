use Rattle.std.proofs.Common.{arith}
use Rattle.std.specs.Prelude.{string_bytes}
use Rattle.dx_script_text.proofs.PrintReads.{read_again}
use Rattle.dx_script_text.proofs.print_steps.print_script.Goals as goal

pub returns-clause-read_again : goal.returns-clause-read_again
returns-clause-read_again c =
    read_again c.from_string.result c.args.script.now c.items-step-items.result.now c.loop-step.step-index (string_bytes c.loop-step.out) c.from_string.ensures c.loop-step.invariant c.items-step-items.ensures (omega (arith, c.loop-step-test.false))

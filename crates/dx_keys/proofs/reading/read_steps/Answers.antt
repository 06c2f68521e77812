use Rattle.dx_base.proofs.Members.{in_at}
use Rattle.dx_keys.proofs.reading.read_steps.Goals as goal

pub null_at-requires : goal.null_at-requires
null_at-requires c = (c.requires _ (in_at c.args.steps.now c.loop-step.step-index _ c.loop-step-test.true)).0

pub value-requires : goal.value-requires
value-requires c = (c.requires _ (in_at c.args.steps.now c.loop-step.step-index _ c.loop-step-test.true)).1

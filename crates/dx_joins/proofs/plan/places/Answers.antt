use Rattle.dx_base.proofs.Members.{in_at}
use Rattle.dx_joins.proofs.plan.places.Goals as goal

pub place-requires : goal.place-requires
place-requires c = c.requires _ (in_at c.args.variables.now c.loop-x.x-index 0 c.loop-x-test.true)

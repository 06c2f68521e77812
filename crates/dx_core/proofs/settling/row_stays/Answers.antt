use Rattle.dx_base.proofs.Members.{in_at}
use Rattle.dx_core.proofs.settling.row_stays.Goals as goal

pub value-requires : goal.value-requires
value-requires c = c.requires _ (in_at c.args.row.now c.loop-number.number-index 0 c.loop-number-test.true)
